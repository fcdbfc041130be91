-- The laws of writing a text: over the buffer, the position and the text; and of texts written one after the other.
-- Assumes nothing.
use Rattle.std.proofs.Common.{ℕ, ◌+◌, ◌≤◌, List, [], ◌++◌, append_assoc, append-nil, ◌≡◌, refl, sym, ap, ◌∙◌, add-zero, zero-add, arith, length, take, drop, length-append, length-take, length-drop, take-append-drop, take-take, take_at, drop_at, drop-drop, length-take-le, le-leb}
use Rattle.std.proofs.Math.Seq.{take-append-le, drop-append-le, drop-append-add}
use Rattle.buffers.specs.declared.text.Text.{Text}
use Rattle.buffers.specs.Text.{put_at, put_end, Written, WrittenIfRoom, Puts, PutsIfRoom}

module _ (buffer : List ℕ) (p : ℕ) (text : List ℕ) where
  -- where there is room
  pub put_over : p + length text ≤ length buffer → put_at buffer p text ≡ take p buffer ++ text ++ drop (p + length text) buffer
  unfolding put_at
  put_over h = rw (le-leb (p + length text) (length buffer) h)

  pub put_ends : p + length text ≤ length buffer → put_end buffer p text ≡ p + length text
  unfolding put_end
  put_ends h = rw (le-leb (p + length text) (length buffer) h)

  pub length_put : p + length text ≤ length buffer → length (put_at buffer p text) ≡ length buffer
  length_put h = ap length (put_over h) ∙ simp (length-append, length-take, length-drop) (omega arith)

-- what the promise of writing gives where there is room
pub if_room : {b t a : List ℕ} {p e : ℕ} → a ≡ put_at b p t → e ≡ put_end b p t → WrittenIfRoom b p t a e
if_room {b} {t} {a} {p} {e} bytes stop h = let s = stop ∙ put_ends b p t h in record { bytes = bytes; stop = s; room = omega arith }

pub put_empty : (b : List ℕ) (p : ℕ) → p ≤ length b → put_at b p [] ≡ b
put_empty b p h = put_over b p [] (omega arith) ∙ rw (append-nil, add-zero, take-append-drop)

pub written_length : {b t a : List ℕ} {p e : ℕ} → Written b p t a e → length a ≡ length b
written_length {b} {t} {a} {p} {e} w = let s = w.stop in let r = w.room in ap length w.bytes ∙ length_put b p t (omega arith)

-- two texts of which the second starts where the first ends
pub put_put : (b : List ℕ) (p : ℕ) (t u : List ℕ) → p + length t + length u ≤ length b
    → put_at (put_at b p t) (p + length t) u ≡ put_at b p (t ++ u)
put_put b p t u h =
    let n : ℕ = p + length t in
    let front : List ℕ = take p b ++ t in
    let rest : List ℕ = drop n b in
    let lf : length front ≡ n = simp (length-append, length-take) (omega arith) in
    let e : put_at b p t ≡ front ++ rest = put_over b p t (omega arith) in
    let le : length (front ++ rest) ≡ length b = sym (ap length e) ∙ length_put b p t (omega arith) in
    let s : n + length u ≡ p + length (t ++ u) = omega (arith, length-append t u) in
    let d : drop (n + length u) (front ++ rest) ≡ drop (p + length (t ++ u)) b =
    ap (λ (k : ℕ). drop (k + length u) (front ++ rest)) (sym lf) ∙ drop-append-add front rest (length u) ∙ drop-drop (length u) n b ∙ ap (λ (k : ℕ). drop k b) s in
    rw (e, put_over (front ++ rest) n u (omega arith), put_over b p (t ++ u) (omega arith), take_at front rest n lf, d)
    (ap (λ (l : List ℕ). l ++ drop (p + length (t ++ u)) b) (append_assoc (take p b) t u))

-- and the same where the second is written first
pub put_back : (b : List ℕ) (p : ℕ) (t u : List ℕ) → p + length t + length u ≤ length b
    → put_at (put_at b (p + length t) u) p t ≡ put_at b p (t ++ u)
put_back b p t u h =
    let n : ℕ = p + length t in
    let front : List ℕ = take n b in
    let rest : List ℕ = drop (n + length u) b in
    let lf : length front ≡ n = length-take-le n b (omega arith) in
    let e : put_at b n u ≡ front ++ (u ++ rest) = put_over b n u (omega arith) ∙ append_assoc front u rest in
    let le : length (front ++ (u ++ rest)) ≡ length b = sym (ap length e) ∙ length_put b n u (omega arith) in
    let f : take p (front ++ (u ++ rest)) ≡ take p b = take-append-le p front (u ++ rest) (omega arith) ∙ take-take p n b (omega arith) in
    let s : p + length (t ++ u) ≡ n + length u = omega (arith, length-append t u) in
    rw (e, put_over (front ++ (u ++ rest)) p t (omega arith), put_over b p (t ++ u) (omega arith), f, drop_at front (u ++ rest) n lf, s)
    (simp append_assoc)

-- a text and then another from its end on are the two in a row
pub then_written : {b m a : List ℕ} {p e e' : ℕ} {t u : List ℕ} → Written b p t m e → Written m e u a e' → Written b p (t ++ u) a e'
then_written {b} {m} {a} {p} {e} {e'} {t} {u} v w =
    let l = written_length v in
    let s : e ≡ p + length t = v.stop in
    let r = w.room in
    let s' = w.stop in
    record {
      bytes = w.bytes ∙ ap (λ (x : List ℕ). put_at x e u) v.bytes ∙ ap (λ (k : ℕ). put_at (put_at b p t) k u) s ∙ put_put b p t u (omega arith);
      stop = omega (arith, length-append t u);
      room = omega arith;
    }

-- and so they are where it is known of each only if there is room for it
pub both_if_room : {b m a : List ℕ} {p e e' : ℕ} {t u : List ℕ} → WrittenIfRoom b p t m e → WrittenIfRoom m e u a e' → WrittenIfRoom b p (t ++ u) a e'
both_if_room {t = t} {u = u} v w h =
    let long = length-append t u in
    let first = v (omega arith) in
    then_written first (w (omega (arith, first.stop, written_length first)))

-- the same of a text under construction
pub puts_if_room : {b a : Text} {t : List ℕ} → Puts b t a → PutsIfRoom b t a
puts_if_room w = record { same_reference = w.same_reference; written = if_room w.bytes w.stop }

pub then_puts : {b m a : Text} {t u : List ℕ} → PutsIfRoom m u a → PutsIfRoom b t m → PutsIfRoom b (t ++ u) a
then_puts w v = record { same_reference = w.same_reference ∙ v.same_reference; written = both_if_room v.written w.written }

infixl 4 ◌then◌
pub ◌then◌ : {b m a : Text} {t u : List ℕ} → PutsIfRoom b t m → Puts m u a → PutsIfRoom b (t ++ u) a
v then w = then_puts (puts_if_room w) v

-- what all writing from the start of a buffer leaves
pub from_start : {b t a : List ℕ} {e : ℕ} → Written b 0 t a e → (e ≡ length t) × (a ≡ t ++ drop (length t) b)
from_start {b} {t} {a} {e} w =
    let s : e ≡ 0 + length t = w.stop in
    let r = w.room in
    (s ∙ zero-add (length t), w.bytes ∙ put_over b 0 t (omega arith) ∙ rw zero-add)

-- and what is written of a text that starts in a buffer m, the same as b
pub from_new : {b m t a : List ℕ} {p e : ℕ} → m ≡ b → p ≡ 0 → length t ≤ length b → WrittenIfRoom m p t a e → (e ≡ length t) × (a ≡ t ++ drop (length t) b)
from_new {b} {m} {t} {a} {p} {e} same start short w =
    let v : WrittenIfRoom b 0 t a e = rw (same, start) at w in
    from_start (v (omega arith))

-- a text written at the start of a part of a buffer is written in the buffer
pub in_part : {b t : List ℕ} {p k : ℕ} → p + k ≤ length b → length t ≤ k
    → Written b p t (take p b ++ (t ++ drop (length t) (take k (drop p b)) ++ drop k (drop p b))) (p + length t)
in_part {b} {t} {p} {k} h short =
    let d : List ℕ = drop p b in
    let lk : length (take k d) ≡ k = simp (length-take, length-drop) (omega arith) in
    let rest : drop (length t) (take k d) ++ drop k d ≡ drop (p + length t) b =
    sym (drop-append-le (length t) (take k d) (drop k d) (omega arith)) ∙ ap (drop (length t)) (take-append-drop k d) ∙ drop-drop (length t) p b in
    record {
      bytes = rw (append_assoc t, rest) (sym (append_assoc (take p b) t (drop (p + length t) b)) ∙ sym (put_over b p t (omega arith)));
      stop = refl;
      room = omega arith;
    }
