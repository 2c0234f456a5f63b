use Rattle.std.proofs.Common.{◌≡◌, ℕ, zero, suc, List, [], ◌∷◌, get_or, length, replicate, refl, ◌∙◌, ap}
use Rattle.std.specs.Prelude.{is_some}
use Rattle.std.proofs.Math.ListN.{set}
use Rattle.std.proofs.lemmas.List.{length-replicate}
use Rattle.cp_dat.specs.Lent.{set_own, set_again}
use Rattle.cp_dat.proofs.dat.DatSupply.clear.Goals as goal

-- a list with one element set is the one before with that element as it is now
set_now : (before after : List (List ℕ)) (user : ℕ) (storage : List ℕ) → after ≡ set before user storage
    → after ≡ set before user (get_or after user [])
set_now before after user storage e =
    set_own after user [] ∙ (ap (λ ss. set ss user (get_or after user [])) e ∙ set_again before user storage
    (get_or after user []))

-- zeros in place of an element are as many
as_long : (before : List (List ℕ)) (user : ℕ)
    → length (get_or (set before user (replicate (length (get_or before user [])) 0)) user [])
    ≡ length (get_or before user [])
as_long [] user = refl
as_long (xs ∷ before) zero = length-replicate (length xs) 0
as_long (xs ∷ before) (suc user) = as_long before user

pub returns-clause-cleared : goal.returns-clause-cleared
returns-clause-cleared c = record {
  kept = record {
    same_frames = refl;
    same_keys = refl;
    same_user = refl;
    same_size = ap length (ap (λ ss. get_or ss c.args.self.now.user []) c.release.ensures.storages) ∙ as_long _
        c.args.self.now.user;
    others = set_now _ _ _ _ c.release.ensures.storages;
  };
  supply = c.release.ensures.supply;
  gone = λ page. ap is_some (c.release.ensures.unmapped page);
  gone_slots = λ page. ap is_some (c.release.ensures.gone_slots page);
}
