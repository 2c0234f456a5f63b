use Rattle.s370_psw.proofs.Loading.{loads_back}
use Rattle.s370_psw.proofs.psw.storing_and_loading.Goals as goal

pub returns-clause-loads_back : goal.returns-clause-loads_back
returns-clause-loads_back c = loads_back
