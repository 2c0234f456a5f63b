use Rattle.std.proofs.Common.{◌∙◌}
use Rattle.clap.specs.Words.{found_of}
use Rattle.clap.proofs.WalkLemmas.{one_text-rows}
use Rattle.program_host.proofs.words.is_given.Goals as goal

pub returns : goal.returns
returns c =
    let same = one_text-rows (found_of c.args.matches.now) c.args.id.now in
    record {
      yes = λ h. c.get_flag.ensures.value (same ∙ h);
      no = λ h. c.get_flag.ensures.other (same ∙ h);
      none = λ h. c.get_flag.ensures.none (same ∙ h);
    }
