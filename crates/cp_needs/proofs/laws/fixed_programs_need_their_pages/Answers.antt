use Rattle.cp_needs.proofs.Walking.{never_stuck, stays_as_begun}
use Rattle.cp_needs.proofs.laws.fixed_programs_need_their_pages.Goals as goal

pub returns-clause-steady : goal.returns-clause-steady
returns-clause-steady g c = λ h spot m d fixed. stays_as_begun h spot m d fixed

pub returns-clause-enough : goal.returns-clause-enough
returns-clause-enough g c =
    λ h present spot m d page fixed held stuck. never_stuck h present spot m d page fixed held stuck
