-- A delivery: the byte of the frame's kind, its from and number; how many held frames were tried (document 01: looked);
-- the body's bytes; and the bytes and extra frames issued.
use Rattle.std.specs.Prelude.{ℕ}

pub record Delivered : Type 0 where
  pub kind : ℕ
  pub from : ℕ
  pub number : ℕ
  pub tried : ℕ
  pub body : ℕ
  pub bytes : ℕ
  pub extras : ℕ
