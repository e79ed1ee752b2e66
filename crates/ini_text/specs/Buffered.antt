-- The bytes that a buffer holds.
use Rattle.std.specs.Prelude.{◌≡◌, ℕ, List, length, take}
use Rattle.ini_text.specs.declared.buffer.Buffer.{Buffer}

abbrev pub buffered : {size : ℕ} → Buffer size → List ℕ
buffered buffer = take buffer.len buffer.bytes

-- the first bytes are a front of the others
abbrev pub IsFront : List ℕ → List ℕ → Type 0
IsFront front bytes = take (length front) bytes ≡ front
