-- What the extras share means, said without computing it (document 02, (ii)): the nearest whole number, of two equally near ones the even one.
use Rattle.std.specs.Prelude.{ℕ, ◌+◌, ◌-◌, ◌*◌, ◌%◌, ◌<◌, ◌≤◌, ◌≡◌}
use Rattle.counters.specs.declared.Counters.{Counters}
use Rattle.counters.specs.Counted.{counted_delivery, counted_nothing, counted_offer, counted_send, no_counters, share, up_to32}

-- by how much two numbers differ
abbrev pub apart : ℕ → ℕ → ℕ
apart x y = (x - y) + (y - x)

-- r is extras per hundred user frames, rounded: 200 × extras and 2 × r × user differ by at most user, and where they differ by exactly user, r is even
pub record Rounded (extras user r : ℕ) : Type 0 where
  pub near : apart (200 * extras) (2 * r * user) ≤ user
  pub even : apart (200 * extras) (2 * r * user) ≡ user → r % 2 ≡ 0

-- none: without user frames the share is 0
-- some: with user frames it is such an r, for which the largest number of 32 bits stands where r is larger
-- only: there is one such r and no other
-- itself: so a share below the largest number of 32 bits is such an r itself
-- no_extras: a share of 0 in fewer than 200 user frames stands for no extra frame
-- one_in_eight, three_in_eight: the request's examples, 12.5 and 37.5
pub record ShareMeans : Type 0 where
  pub none : (extras : ℕ) → share extras 0 ≡ 0
  pub some : (extras user : ℕ) → 0 < user → (r : ℕ) × Rounded extras user r × share extras user ≡ up_to32 r
  pub only : (extras user r s : ℕ) → 0 < user → Rounded extras user r → Rounded extras user s → r ≡ s
  pub itself : (extras user : ℕ) → 0 < user → share extras user < 4294967295 → Rounded extras user (share extras user)
  pub no_extras : (extras user : ℕ) → 0 < user → user < 200 → share extras user ≡ 0 → extras ≡ 0
  pub one_in_eight : share 1 8 ≡ 12
  pub three_in_eight : share 3 8 ≡ 38

-- the counters' share is that of their own extra and user frames
abbrev pub OwnShare : Counters → Type 0
OwnShare t = t.share ≡ share t.extras t.user

-- it is so before the first step and after each: of the T numbers the last is always the share of the first two
pub record SharePrinted : Type 0 where
  pub start : OwnShare no_counters
  pub send : (t : Counters) (x : ℕ) → OwnShare (counted_send t x)
  pub offer : (t : Counters) (x : ℕ) → OwnShare t → OwnShare (counted_offer t x)
  pub delivery : (t : Counters) (x : ℕ) → OwnShare (counted_delivery t x)
  pub nothing : (t : Counters) (x : ℕ) → OwnShare t → OwnShare (counted_nothing t x)
