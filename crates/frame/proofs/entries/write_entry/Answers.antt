-- Two bytes and a field of four are written. Assumes nothing.
use mathlib.Core.Path.{◌∙◌}
use Rattle.frame.proofs.EntryLists.{put-entry}
use Rattle.frame.proofs.entries.write_entry.Goals as goal

pub returns : goal.returns
returns c =
    let a = c.args in
    c.put_u32.ensures ∙ put-entry a.out.now a.at a.a
