-- The first number is written, then the end of the line. Assumes nothing.
use Rattle.text.specs.Print.{number_row}
use Rattle.text.proofs.Print.{shown-both}
use Rattle.text.proofs.put_numbers.Goals as goal

pub returns : goal.returns
unfolding number_row
returns c =
    let d = c.put_decimal-end.ensures in
    let e = c.put_line_end.ensures in
    shown-both _ _ _ _ _ _ _ _ d.0 d.1 e.0 e.1
