-- A sound frame has a header. Assumes nothing.
use Rattle.arrival.proofs.Sound.{header-room}
use Rattle.world.proofs.log.is_named.Goals as goal

pub read-h-requires : goal.read-h-requires
read-h-requires c = header-room _ c.requires
