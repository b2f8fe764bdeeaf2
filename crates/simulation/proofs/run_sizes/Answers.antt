-- The start is stored, and the lines follow. Assumes nothing.
use mathlib.Core.Path.{refl}
use Rattle.world.specs.Stored.{log_size}
use Rattle.simulation.proofs.Runs.{stored-start}
use Rattle.simulation.proofs.run_sizes.Goals as goal

pub run_lines-requires : goal.run_lines-requires
unfolding log_size
run_lines-requires c =
    let p = c.requires in
    (record { n = _; caps = _; holds = stored-start _ _ p.0 _ c.fresh-world.ensures 51328 53376 refl refl }, p.1, p.2)

pub returns : goal.returns
unfolding log_size
returns c =
    let r = c.run_lines.ensures in
    (r.0, r.1 _ _ (stored-start _ _ c.requires.0 _ c.fresh-world.ensures 51328 53376 refl refl))
