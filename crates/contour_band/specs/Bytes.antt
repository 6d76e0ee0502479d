-- Which bytes a reader gave and a writer got, of a reader and a writer whose bytes are known. Those that the system
-- moves no contract can say: there the known bytes are `None`, and each of these says nothing.
use Rattle.std.specs.Prelude.{◌≡◌, ℕ, ◌<◌, ⊤, List, length, take, IfSome, Some, None, Result, Ok, Err}
use Rattle.std.specs.declared.option.Option.{Option}
use Rattle.std.specs.declared.io.Error.{Error}
use Rattle.std.specs.Io.KnownBytes.{Keeps, Appends, Consumes, IsAtEnd}
use Rattle.contour_band.specs.declared.NoAnswer.{NoAnswer}
use Rattle.contour_band.specs.declared.NoAnswer.TheVariants.{Unread, Unwritten}

-- the bytes that a step moved stand in front of `rest` and are gone from the reader; none are moved only at its end, or
-- where there is no room
abbrev pub StepReads : Result (Option ℕ) Error → Option (List ℕ) → Option (List ℕ) → List ℕ → Type 0
StepReads (Ok (Some k)) old new rest = Consumes old new (take k rest) × (k ≡ 0 → 0 < length rest → IsAtEnd new)
StepReads (Ok None) old new rest = Keeps old new
StepReads (Err error) old new rest = Keeps old new

-- the bytes that a step moved are the front of `rest`, and the writer has them after its own
abbrev pub StepWrites : Result (Option ℕ) Error → Option (List ℕ) → Option (List ℕ) → List ℕ → Type 0
StepWrites (Ok (Some k)) old new rest = Appends old new (take k rest)
StepWrites (Ok None) old new rest = Keeps old new
StepWrites (Err error) old new rest = Keeps old new

-- the text is the front of what the reader had, as much of it as the list holds
abbrev pub IsFrontRead : Result ℕ Error → Option (List ℕ) → List ℕ → Type 0
IsFrontRead (Ok k) known list = IfSome known (λ xs. take k list ≡ take (length list) xs)
IsFrontRead (Err error) known list = ⊤

-- a writer took some of xs, from its first on
abbrev pub AppendsFront : Option (List ℕ) → Option (List ℕ) → List ℕ → Type 0
AppendsFront old new xs = (n : ℕ) × Appends old new (take n xs)

-- where no text was read, the writer has what it had
abbrev pub KeepsUnread : NoAnswer → Option (List ℕ) → Option (List ℕ) → Type 0
KeepsUnread (Unread error) old new = Keeps old new
KeepsUnread (Unwritten error) old new = ⊤
