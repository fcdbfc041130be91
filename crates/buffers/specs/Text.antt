-- A text written into a buffer.
-- Assumes nothing.
use Rattle.std.specs.Prelude.{ℕ, ◌+◌, ◌≤◌, cond, List, ◌++◌, ◌≡◌, Option, Some, None, length, take, drop}
use Rattle.buffers.specs.Bytes.{fits}
use Rattle.buffers.specs.declared.text.Text.{Text}

-- the position after so many bytes from p on, if they fit within a length
abbrev pub end_after : ℕ → ℕ → ℕ → Option ℕ
end_after n p size = cond (fits n p size) (Some (p + size)) None

-- the buffer with the text over its bytes from position p on, where it fits; else as it was
unfoldable pub put_at : List ℕ → ℕ → List ℕ → List ℕ
put_at buffer p text =
    cond (fits (length buffer) p (length text)) (take p buffer ++ text ++ drop (p + length text) buffer) buffer

-- the position after the text, where it fits; else p
unfoldable pub put_end : List ℕ → ℕ → List ℕ → ℕ
put_end buffer p text = cond (fits (length buffer) p (length text)) (p + length text) p

-- a text that fits was written from position p on: the buffer after it, and the position after the text
pub record Written (before : List ℕ) (p : ℕ) (text after : List ℕ) (end : ℕ) : Type 0 where
  pub bytes : after ≡ put_at before p text
  pub stop : end ≡ p + length text
  pub room : end ≤ length before

-- a text was written so, if there was room for it
abbrev pub WrittenIfRoom : List ℕ → ℕ → List ℕ → List ℕ → ℕ → Type 0
WrittenIfRoom before p text after end = p + length text ≤ length before → Written before p text after end

-- of a text under construction: which reference it holds, the bytes of its buffer, and the index up to which they are written so far
abbrev pub text_reference : Text → ℕ
text_reference t = t.out.ghost_name

abbrev pub text_buffer : Text → List ℕ
text_buffer t = t.out.now

abbrev pub text_length : Text → ℕ
text_length t = t.length

-- a text is put there: it holds the same buffer, with that text after what was written so far where it fits; else nothing changes
pub record Puts (before : Text) (text : List ℕ) (after : Text) : Type 0 where
  pub same_reference : text_reference after ≡ text_reference before
  pub bytes : text_buffer after ≡ put_at (text_buffer before) (text_length before) text
  pub stop : text_length after ≡ put_end (text_buffer before) (text_length before) text

-- a text is put there part by part: it holds the same buffer, with that text if there is room for all of it
pub record PutsIfRoom (before : Text) (text : List ℕ) (after : Text) : Type 0 where
  pub same_reference : text_reference after ≡ text_reference before
  pub written : WrittenIfRoom (text_buffer before) (text_length before) text (text_buffer after) (text_length after)
