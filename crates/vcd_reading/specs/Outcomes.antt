-- What the contracts of the reading functions say: what a step gives, but for want of memory.
use Rattle.std.specs.Prelude.{ℕ, ◌≡◌, List, [], None, Result, Ok, Err, length}
use Rattle.vcd_words.specs.Words.{words_left}
use Rattle.vcd_reading.specs.declared.error.VcdErr.{VcdErr}
use Rattle.vcd_reading.specs.declared.error.VcdErr.TheVariants.{Syntax, MissingPort, PortWidth, NoCycle, UnknownInput, Cycles, NoMemory}
use Rattle.vcd_reading.specs.Header.{Header}
use Rattle.vcd_reading.specs.Scopes.{Sought}
use Rattle.vcd_reading.specs.Changes.{Past}
use Rattle.vcd_reading.specs.Reading.{Step, goes, stops, Reads, ReadsText}

-- a refusal is of a wrong word, of whose offset a fact holds, or want of memory
abbrev pub IsAt : (ℕ → Type 0) → VcdErr → Type 0
IsAt fact (Syntax at) = fact at
IsAt fact NoMemory = Unit {0}
IsAt fact MissingPort = ⊥
IsAt fact (PortWidth port) = ⊥
IsAt fact NoCycle = ⊥
IsAt fact (UnknownInput cycle port) = ⊥
IsAt fact Cycles = ⊥

-- a call that leaves what stands before a place does what a step says
abbrev pub Turns : List ℕ → Step → Result ℕ VcdErr → Past → Type 0
Turns text step (Ok next) new = step ≡ goes new (words_left text next)
Turns text step (Err fault) new = IsAt (λ at. step ≡ stops at) fault

-- what stands before the words behind a header
abbrev pub begun : Header → Past
begun h = record { header = h; time = None; ended = []; events = [] }

-- whatever comes of the words from a place on comes of the text
abbrev pub ReadsOn : Sought → List ℕ → Past → ℕ → Type 0
ReadsOn sought text past at =
    (outcome : Result Past ℕ) → Reads sought (length text) past (words_left text at) outcome → ReadsText sought text outcome
