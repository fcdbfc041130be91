-- The laws of the blocks of a file.
-- Assumes nothing.
use Rattle.std.proofs.Common.{◌≡◌, ℕ, zero, suc, ◌+◌, ◌-◌, ◌*◌, ◌<◌, ◌≤◌, min, List, [], ◌∷◌, ◌++◌, length, take, drop, sym, refl, ap, ◌∙◌, ⊎_elim, zero-add, arith, length-drop, take_all}
use Rattle.std.proofs.lemmas.Bool.{cases_lt}
use Rattle.std.proofs.Math.Seq.{take-append-le, drop-append-le}
use Rattle.blocks.specs.Files.{blocks}

pub length_blocks : (n : ℕ) (s : List ℕ) → length (blocks n s) ≡ n
unfolding blocks
length_blocks zero s = refl
length_blocks (suc n) s = ap suc (length_blocks n (drop 512 s))

-- a run of whole blocks, and what follows it
pub blocks_append : (k n : ℕ) (a b : List ℕ) → length a ≡ 512 * k → blocks (k + n) (a ++ b) ≡ blocks k a ++ blocks n b
unfolding blocks
blocks_append zero n [] b e = rw zero-add
blocks_append zero n (x ∷ a) b e = absurd (omega arith)
blocks_append (suc k) n a b e =
    let s : suc k + n ≡ suc (k + n) = omega arith in
    let h : 512 ≤ length a = omega arith in
    let d : length (drop 512 a) ≡ 512 * k = omega (arith, length-drop 512 a) in
    rw s (rw (take-append-le 512 a b h, drop-append-le 512 a b h, blocks_append k n (drop 512 a) b d))

pub blocks_front : (m : ℕ) (a b : List ℕ) → 512 * m ≤ length a → blocks m (a ++ b) ≡ blocks m a
unfolding blocks
blocks_front zero a b e = refl
blocks_front (suc m) a b e =
    let h : 512 ≤ length a = omega arith in
    let d : 512 * m ≤ length (drop 512 a) = omega (arith, length-drop 512 a) in
    rw (take-append-le 512 a b h, drop-append-le 512 a b h, blocks_front m (drop 512 a) b d)

-- the bytes from an index to the end of the block that starts there
pub block_part : (s : List ℕ) (at end : ℕ) → end ≡ min (at + 512) (length s) → at ≤ length s → take (end - at) (drop at s) ≡ take 512 (drop at s)
block_part s at end e h =
    ⊎_elim
    (λ (l : length s < at + 512).
    let n : length (drop at s) ≡ length s - at = length-drop at s in
    let k : end - at ≡ length s - at = omega arith in
    rw k (take_all (length s - at) (drop at s) (omega arith) ∙ sym (take_all 512 (drop at s) (omega arith))))
    (λ (l : at + 512 ≤ length s). let k : end - at ≡ 512 = omega arith in rw k)
    (cases_lt (length s) (at + 512))
