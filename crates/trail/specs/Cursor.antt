-- A walk's cursor, and what it carries along: the kinds of the frames shown last in one number of 64 bits, and the count of extra frames in the window.
use Rattle.std.specs.Prelude.{ℕ, ◌+◌, ◌-◌, ◌*◌, ◌/◌, ◌%◌, ◌^◌, min, max, Bool, ◌||◌, ltb}
use Rattle.trail.specs.declared.walk.Cursor.{Cursor}

-- 19: w is out of range, 1 to 64
unfoldable pub wrong_window : ℕ → Bool
wrong_window w = ltb w 1 || ltb 64 w

-- the cursor with which a walk with a window of w frames begins at `end`
unfoldable pub begun : ℕ → ℕ → Cursor
begun end w = record { end = end; w = w; kinds = 0; extras = 0; most = 0 }

-- the kind of the frame that was shown w frames ago: bit w - 1
unfoldable pub leaving : ℕ → ℕ → ℕ
leaving w kinds = kinds / 2 ^ (w - 1) % 2

-- the extra frames of a window of w frames, which has at most w, when x of them enter and y leave
unfoldable pub in_window : ℕ → ℕ → ℕ → ℕ → ℕ
in_window w extras x y = min w extras + x - y

-- the cursor once a frame from `start` on is shown, x being 1 for an extra frame
unfoldable pub passing : Cursor → ℕ → ℕ → Cursor
passing c start x =
    let extras : ℕ = in_window c.w c.extras x (leaving c.w c.kinds) in
    record { end = start; w = c.w; kinds = c.kinds * 2 % 2 ^ 64 + x; extras = extras; most = max c.most extras }
