use Rattle.sessions.proofs.OneTranscript.{transcripts_are_one}
use Rattle.sessions.proofs.laws.a_transcript_is_one.Goals as goal

pub returns : goal.returns
returns g c = λ law. transcripts_are_one g.I.Installation.goes law
