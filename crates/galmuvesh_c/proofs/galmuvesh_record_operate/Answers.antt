-- The promise is the library function's own.
use Rattle.galmuvesh_c.proofs.galmuvesh_record_operate.Goals as goal

pub returns : goal.returns
returns c = c.galmuvesh_record_operate.ensures
