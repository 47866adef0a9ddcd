-- Steps of a reading.
use Rattle.std.proofs.Common.{◌≡◌, ℕ, List, [], ◌∷◌, length, sym, subst, Ok, Err}
use Rattle.vcd_words.specs.Words.{Placed, words_left}
use Rattle.vcd_reading.specs.Scopes.{Sought, anywhere}
use Rattle.vcd_reading.specs.Changes.{Past}
use Rattle.vcd_reading.specs.Reading.{goes, stops, step, Reads, one_piece, at_fault, at_end, ReadsText}
use Rattle.vcd_reading.specs.declared.error.VcdErr.{VcdErr}
use Rattle.vcd_reading.specs.declared.error.VcdErr.TheVariants.{Syntax, MissingPort, PortWidth, NoCycle, UnknownInput, Cycles, NoMemory}
use Rattle.vcd_reading.specs.Outcomes.{ReadsOn, IsAt}

-- a piece takes the reading on
pub reads_on : (sought : Sought) (text : List ℕ) (past next : Past) (at to : ℕ) (first : Placed) (words : List Placed)
    → ReadsOn sought text past at → words_left text at ≡ first ∷ words
    → step sought (length text) past first words ≡ goes next (words_left text to) → ReadsOn sought text next to
reads_on sought text past next at to first words before are goes_on outcome rest =
    let P : List Placed → Type 0 = λ l. Reads sought (length text) past l outcome in
    before outcome (subst P (sym are) (one_piece goes_on rest))

-- a wrong word ends it
pub reads_fault : (sought : Sought) (text : List ℕ) (past : Past) (at place : ℕ) (first : Placed) (words : List Placed)
    → ReadsOn sought text past at → words_left text at ≡ first ∷ words
    → step sought (length text) past first words ≡ stops place → ReadsText sought text (Err place)
reads_fault sought text past at place first words before are stop =
    let P : List Placed → Type 0 = λ l. Reads sought (length text) past l (Err place) in
    before (Err place) (subst P (sym are) (at_fault stop))

-- the end of the text
pub reads_end : (sought : Sought) (text : List ℕ) (past : Past) (at : ℕ) → ReadsOn sought text past at
    → words_left text at ≡ [] → ReadsText sought text (Ok past)
reads_end sought text past at before none =
    let P : List Placed → Type 0 = λ l. Reads sought (length text) past l (Ok past) in
    before (Ok past) (subst P (sym none) at_end)

-- a fact of a wrong word that holds for all that may be looked for, each by itself
pub at_for_all : (P : Sought → ℕ → Type 0) (fault : VcdErr) → ((sought : Sought) → IsAt (P sought) fault) → IsAt (λ at. (sought : Sought) → P sought at) fault
at_for_all P (Syntax at) each = each
at_for_all P NoMemory each = tt
at_for_all P MissingPort each = each (anywhere [])
at_for_all P (PortWidth port) each = each (anywhere [])
at_for_all P NoCycle each = each (anywhere [])
at_for_all P (UnknownInput cycle port) each = each (anywhere [])
at_for_all P Cycles each = each (anywhere [])

-- a fact of a wrong word that gives another
pub at_map : (P Q : ℕ → Type 0) (fault : VcdErr) → ((at : ℕ) → P at → Q at) → IsAt P fault → IsAt Q fault
at_map P Q (Syntax at) gives fact = gives at fact
at_map P Q NoMemory gives fact = tt
at_map P Q MissingPort gives fact = fact
at_map P Q (PortWidth port) gives fact = fact
at_map P Q NoCycle gives fact = fact
at_map P Q (UnknownInput cycle port) gives fact = fact
at_map P Q Cycles gives fact = fact

-- a refusal at a word is one of the text
pub reads_refused : (sought : Sought) (text : List ℕ) (past : Past) (at : ℕ) (first : Placed) (words : List Placed) (fault : VcdErr)
    → ReadsOn sought text past at → words_left text at ≡ first ∷ words
    → IsAt (λ place. step sought (length text) past first words ≡ stops place) fault
    → IsAt (λ place. ReadsText sought text (Err place)) fault
reads_refused sought text past at first words fault before are =
    at_map (λ place. step sought (length text) past first words ≡ stops place) (λ place. ReadsText sought text (Err place)) fault
    (λ place. reads_fault sought text past at place first words before are)
