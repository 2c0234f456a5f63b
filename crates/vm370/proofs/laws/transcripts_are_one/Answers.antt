use Rattle.vm370.proofs.OneReply.{have_one_reply}
use Rattle.vm370.proofs.laws.transcripts_are_one.Goals as goal

pub returns : goal.returns
returns c = c.a_transcript_is_one.ensures (have_one_reply c.a_reply_is_one.ensures.history)
