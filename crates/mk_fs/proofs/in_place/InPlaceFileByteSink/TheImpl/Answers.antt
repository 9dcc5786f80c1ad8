use Rattle.mk_fs.proofs.UntoldLemmas.{untold-write, untold-count, untold-reset}
use Rattle.mk_fs.proofs.in_place.InPlaceFileByteSink.TheImpl.Goals as goal

pub write-tells : goal.write-tells
write-tells g c = search (untold-write)

pub flush-tells : goal.flush-tells
flush-tells g c = search (untold-count, untold-reset)
