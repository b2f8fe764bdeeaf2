-- How many bytes a send and a delivery issue at a node that keeps the record rules: at most 814 and at most 846. Assumes nothing.
use Prim.Native.Nat.{◌*◌, ◌+◌, ◌-◌, ◌<◌, ◌≤◌, ℕ}
use mathlib.Core.Bool.{cond}
use mathlib.Core.List.{List, ◌∷◌}
use mathlib.Core.Logic.{◌≢◌}
use mathlib.Core.Path.{◌≡◌, ap}
use native.Mathlib.Decide.{dec_le, dec_lt}
use native.Mathlib.Omega.{arith}
use lib.Dec.{leb, le→leb}
use lib.ListN.{length}
use Rattle.frame.proofs.Frames.{frames-nil, length-extra, length-frames}
use Rattle.frame.proofs.Written.{length-encode}
use Rattle.frame.specs.Frames.{frames_of}
use Rattle.matrix.proofs.Bounds.{count_110, count_121, rules-column}
use Rattle.matrix.proofs.Columns.{MatrixRules, clear-count, clear-one, clear-rules, clear-same, column-zero, crowded-few, merge-rules}
use Rattle.matrix.proofs.Merged.{merge-count}
use Rattle.matrix.proofs.Sums.{sum-above, sum_change, sum_less, sum_times}
use Rattle.matrix.specs.Matrix.{Matrix, clear, column_count, count, merge, sum}
use Rattle.matrix.specs.Message.{Kind, Message, extra, extra_message, user}
use Rattle.protocol.proofs.Extras.{send-one}
use Rattle.protocol.proofs.Trim.{Rounds, done, round, trim_excess, trim-full, trim-rounds}
use Rattle.protocol.specs.Deliver.{learn}
use Rattle.protocol.specs.Node.{Node}
use Rattle.protocol.specs.Send.{sent_matrix, sent_message}
use Rattle.protocol.specs.Trim.{trim_for}
use Rattle.wire.proofs.Tests.{cond_no, cond_yes, lt→nleb}
use Rattle.wire.specs.Limits.{max_body, max_nodes}

-- the bytes of the frame that clears a column of c entries; one of fewer than two is never cleared
clearing : ℕ → ℕ
clearing c = cond (leb 2 c) (12 + 6 * c) 0

clearing-two : (c : ℕ) → 2 ≤ c → clearing c ≡ 12 + 6 * c
unfolding clearing
clearing-two c h = cond_yes (leb 2 c) (12 + 6 * c) 0 (le→leb 2 c h)

clearing-none : (c : ℕ) → c < 2 → clearing c ≡ 0
unfolding clearing
clearing-none c h = cond_no (leb 2 c) (12 + 6 * c) 0 (lt→nleb 2 c h)

-- the bytes that would clear every column
clearing_all : Matrix → ℕ
clearing_all m = sum 12 (λ y. clearing (column_count m y))

-- 12 for each column but the own, and 6 for each entry
clearing-all : (me : ℕ) (m : Matrix) → me < 12 → ((x : ℕ) → m x me ≡ 0) → clearing_all m ≤ 132 + 6 * count m
unfolding clearing_all count
clearing-all me m hi own =
    omega (
      arith,
      sum-above 12 (λ y. clearing (column_count m y)) (λ y. 6 * column_count m y),
      sum_times 12 6 (column_count m),
      sum_less 12 12 me (λ y. clearing (column_count m y) - 6 * column_count m y) hi
          (omega (arith, clearing-none (column_count m me) (omega (arith, column-zero m me own)))) (λ y _. twelve y (dec_le 2 (column_count m y))),
    )
  where
    twelve : (y : ℕ) → Dec (2 ≤ column_count m y) → clearing (column_count m y) - 6 * column_count m y ≤ 12
    twelve y (yes h) = omega (arith, clearing-two (column_count m y) h)
    twelve y (no h) = omega (arith, clearing-none (column_count m y) (omega arith))

-- no column is cleared twice
rounds-all : (n cap me : ℕ) (m : Matrix) (extras : List Message) (m' : Matrix) → me < n → n ≤ 12 → Rounds n cap me m extras m'
    → length (frames_of extras) ≤ clearing_all m
unfolding clearing_all
rounds-all n cap me m extras m' hi hn (done _) = rw frames-nil (omega arith)
rounds-all n cap me m extras m' hi hn (round _ _ o l hl ne two _ r) =
    omega (
      arith,
      length-frames (extra_message me l n cap m) o,
      length-extra me l n cap m (omega arith),
      rounds-all n cap me (clear me l m) o m' hi hn r,
      sum_change 12 l (λ y. clearing (column_count (clear me l m) y)) (λ y. clearing (column_count m y)) (omega arith)
          (λ y ne. ap clearing (clear-same me l m y ne)),
      clearing-two (column_count m l) two,
      clearing-none (column_count (clear me l m) l) (omega (arith, clear-one me l m (omega arith))),
    )

-- an extra frame has at most 78 bytes: eleven entries
rounds-each : (n cap me : ℕ) (m : Matrix) (extras : List Message) (m' : Matrix) → me < n → n ≤ 12 → Rounds n cap me m extras m'
    → length (frames_of extras) ≤ 78 * length extras
rounds-each n cap me m extras m' hi hn (done _) = rw frames-nil (omega arith)
rounds-each n cap me m extras m' hi hn (round _ _ o l hl ne two f r) =
    omega (
      arith,
      length-frames (extra_message me l n cap m) o,
      length-extra me l n cap m (omega arith),
      rules-column n me m hi hn f l,
      rounds-each n cap me (clear me l m) o m' hi hn r,
    )

module _ (n me cap : ℕ) (hi : me < n) (hn : n ≤ 12) (hc : n ≤ cap) where
  -- a trim that starts at most 100 entries above the cap: of more than 119 it clears ten columns at most, of fewer each column once
  trim-most : (m : Matrix) → MatrixRules n me m → count m ≤ cap + 100 → length (frames_of (trim_for 12 me n cap m).extras) ≤ 846
  trim-most m f h = go (dec_lt (count m) 120)
    where
      rounds : Rounds n cap me m (trim_for 12 me n cap m).extras (trim_for 12 me n cap m).matrix
      rounds = trim-rounds 12 n me cap m hi hc f

      go : Dec (count m < 120) → length (frames_of (trim_for 12 me n cap m).extras) ≤ 846
      go (yes l) = omega (arith, rounds-all n cap me m _ _ hi hn rounds, clearing-all me m (omega arith) f.own)
      go (no l) =
          omega (
            arith,
            rounds-each n cap me m _ _ hi hn rounds,
            trim-full 12 10 n me cap m hi hn hc f (omega (arith, crowded-few n me m hi hn f)) (omega arith) h,
          )

-- a node that keeps the record rules
module _ (d : Node) (me : d.me < d.n) (twelve : d.n ≤ max_nodes) (least : d.n ≤ d.cap) (rules : MatrixRules d.n d.me d.matrix)
    (few : count d.matrix ≤ d.cap) where
  -- a delivery of entries from node k that claim no more of row me than stands there, however many they are
  pub delivery-bytes : (k : ℕ) (e : Matrix) → k < d.n → k ≢ d.me → MatrixRules d.n k e → ((y : ℕ) → y < 12 → e d.me y ≤ d.matrix d.me y)
      → (kind : Kind) → length (frames_of (learn kind d e).extras) ≤ 846
  delivery-bytes k e below apart f claims user =
      trim-most d.n d.me d.cap me twelve least (merge d.me d.matrix e) (merge-rules d.n d.me k d.matrix e rules f)
      (omega (arith, merge-count d.me k d.matrix e (omega arith) (omega arith) apart f.diagonal f.own claims))
  delivery-bytes k e below apart f claims extra = rw frames-nil (omega arith)

  -- a send: an extra frame besides the user frame only where column `to` was zero
  pub send-bytes : (to : ℕ) (body : List ℕ) → to < d.n → to ≢ d.me → length body ≤ max_body
      → length (frames_of (sent_message d to body ∷ (sent_matrix d to).extras)) ≤ 814
  send-bytes to body below other short =
      go (dec_le more 0)
      (omega (
        arith,
        length-frames (sent_message d to body) (sent_matrix d to).extras,
        length-encode (sent_message d to body),
        rounds-each d.n d.cap d.me cleared _ _ me twelve (trim-rounds 12 d.n d.me d.cap cleared me least kept),
      ))
    where
      cleared : Matrix
      cleared = clear d.me to d.matrix

      kept : MatrixRules d.n d.me cleared
      kept = clear-rules d.n d.me to d.matrix rules me below other

      more : ℕ
      more = length (sent_matrix d to).extras

      one : more ≤ 1
      one = send-one d me twelve least rules to below other few

      empty : 0 < more → column_count d.matrix to ≡ 0
      empty h =
          omega (
            arith,
            trim_excess 12 d.n d.me d.cap cleared me twelve least kept,
            clear-count d.me to d.matrix (omega arith) (omega arith),
          )

      go : Dec (more ≤ 0) → length (frames_of (sent_message d to body ∷ (sent_matrix d to).extras)) ≤ 12 + 6 * count d.matrix + length body + 78 * more
          → length (frames_of (sent_message d to body ∷ (sent_matrix d to).extras)) ≤ 814
      go (yes q) h = omega (arith, count_121 d.me d.matrix (omega arith) rules.diagonal rules.own)
      go (no q) h = omega (arith, one, count_110 d.n d.me to d.matrix me twelve rules below other (empty (omega arith)))
