use Rattle.std.proofs.Common.{◌≡◌, ◌≤◌, take, map, All}
use Rattle.cp_core.proofs.boot.pages_of.Given as goal

abbrev pub invariant-loop-user : goal.invariant-loop-user
invariant-loop-user l = record {
  pages : l.pages.items ≡ map (λ user. user.pages) (take l.user-index l.users);
  few : All (λ count. count ≤ 1024) l.pages.items;
}
