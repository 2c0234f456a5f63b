use Rattle.std.proofs.Common.{◌≡◌, ◌++◌, map, take}
use Rattle.logon_desk.specs.declared.account.KeptLine.{KeptLine}
use Rattle.logon_desk.specs.declared.output.DeskAction.TheVariants.{ShowsAgain}
use Rattle.logon_desk.proofs.desk.show_again.Given as goal

-- the lines so far are shown again
abbrev pub invariant-loop-line : goal.invariant-loop-line
invariant-loop-line l = l.out ≡ l.fn.out ++ map (λ (line : KeptLine). ShowsAgain l.connection l.user line)
    (take l.line-index l.lines)
