use Rattle.s370_walk.proofs.Viewing.{asked_back, ends_back, reaches_viewed}
use Rattle.s370_walk.proofs.laws.a_view_walks_as_its_device.Goals as goal

pub returns-clause-ends : goal.returns-clause-ends
returns-clause-ends g c = λ form h small view s e m x same r. ends_back form h small view same s e m x r

pub returns-clause-asks : goal.returns-clause-asks
returns-clause-asks g c = λ w h small view s t page same r asked. asked_back w h small view same s t page r asked

pub returns-clause-walks : goal.returns-clause-walks
returns-clause-walks g c = λ form h small view s t same r. reaches_viewed form h small view same s t r
