use Rattle.cp_spool.proofs.Feeding.{fed_loads, fed_stops, fed_touches, fed_touches_loading, fed_walks}
use Rattle.cp_spool.proofs.laws.a_fed_reader_is_a_reader.Goals as goal

pub returns-clause-walks : goal.returns-clause-walks
returns-clause-walks c = fed_walks

pub returns-clause-loads : goal.returns-clause-loads
returns-clause-loads c = fed_loads

pub returns-clause-stops : goal.returns-clause-stops
returns-clause-stops c = fed_stops

pub returns-clause-touches : goal.returns-clause-touches
returns-clause-touches c = fed_touches

pub returns-clause-touches_loading : goal.returns-clause-touches_loading
returns-clause-touches_loading c = fed_touches_loading
