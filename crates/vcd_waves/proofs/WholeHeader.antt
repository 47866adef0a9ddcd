-- The whole header of a wave is read.
use Rattle.std.proofs.Common.{◌≡◌, ℕ, arith, ◌+◌, ◌≤◌, ◌<◌, true, false, Option, Some, None, List, [], ◌∷◌, ◌++◌, length, refl, sym, subst, append_assoc}
use Rattle.std.specs.Prelude.{codes, decimal}
use Rattle.std.proofs.lemmas.List.{append-nil}
use Rattle.design_core.specs.declared.design.Design.{Design}
use Rattle.vcd_words.specs.Codes.{code_of}
use Rattle.vcd_words.specs.Lines.{AreBlack}
use Rattle.vcd_words.specs.Lines.AreBlack.{no_word, one_more}
use Rattle.vcd_reading.specs.Header.{Header, Opened, with_scope, without_scope, no_header}
use Rattle.vcd_reading.specs.Header as read
use Rattle.vcd_reading.specs.Scopes.{Sought}
use Rattle.vcd_reading.specs.Changes.{Past}
use Rattle.vcd_reading.specs.Reading.{no_past}
use Rattle.vcd_waves.specs.declared.variable.Variable.{Variable}
use Rattle.vcd_waves.specs.Variables.{name_of}
use Rattle.vcd_waves.specs.Lines.{timescale_line, scope_line, upscope_line, end_line, variable_lines, freed_lines, header_lines}
use Rattle.vcd_waves.specs.Runs.{Runs}
use Rattle.vcd_waves.specs.Runs.Runs.{no_line, one_line}
use Rattle.vcd_waves.proofs.RoundReading.{runs_join}
use Rattle.vcd_waves.proofs.WordForms.{IsWord, code_word, number_word, decimal_size, freed_word}
use Rattle.vcd_waves.proofs.HeaderDeeds.{headed, declared_by, with_one, var_deed, scope_deed, upscope_deed, end_deed, timescale_deed}

-- the names of variables are words
pub data Named (d : Design) (clock : Option (List ℕ)) : List Variable → Type 0 where
  no_name : Named d clock []
  one_name : {v : Variable} {rest : List Variable} → IsWord (name_of d clock v) → Named d clock rest
      → Named d clock (v ∷ rest)

-- what the lines of variables declare in a scope, counted on from a number
abbrev pub declared_in : Design → Option (List ℕ) → Option ℕ → ℕ → List Variable → List read.Variable
declared_in d clock scope n [] = []
declared_in d clock scope n (v ∷ rest) = declared_by scope v.width (code_of n)
    (name_of d clock v) ∷ declared_in d clock scope (n + 1) rest

abbrev pub with_all : Header → List read.Variable → Header
with_all h variables = record h { variables = h.variables ++ variables }

-- words of a line
black : {word : List ℕ} {words : List (List ℕ)} → IsWord word → AreBlack words → AreBlack (word ∷ words)
black is rest = one_more is.some is.black rest

var_black : (width n : ℕ) (name : List ℕ) → IsWord name → n < 56335895
    → AreBlack (codes "$var" ∷ codes "wire" ∷ decimal width ∷ code_of n ∷ name ∷ codes "$end" ∷ [])
var_black width n name named few =
    one_more (λ none. cc) refl (one_more (λ none. cc) refl
    (black (number_word width) (black (code_word n few) (black named (one_more (λ none. cc) refl no_word)))))

-- variables are declared one after another
pub variables_run : (sought : Sought) (end : ℕ) (d : Design) (clock : Option (List ℕ)) (past : Past) (n : ℕ)
    (vs : List Variable)
    → past.header.ended ≡ false → n + length vs ≤ 56335895 → Named d clock vs
    → Runs sought end past (variable_lines d clock n vs)
    (headed past (with_all past.header (declared_in d clock past.header.current n vs)))
variables_run sought end d clock past n [] begun few named =
    let P : List read.Variable
    → Type 0 = λ l. Runs sought end past [] (headed past (record past.header { variables = l })) in
    subst P (sym (append-nil past.header.variables)) no_line
variables_run sought end d clock past n (v ∷ vs) begun few (one_name is named) =
    let one : read.Variable = declared_by past.header.current v.width (code_of n) (name_of d clock v) in
    let others : List read.Variable = declared_in d clock past.header.current (n + 1) vs in
    let next : Past = headed past (with_one past.header one) in
    let below : n < 56335895 = omega (arith, few) in
    let fewer : n + 1 + length vs ≤ 56335895 = omega (arith, few) in
    let code : IsWord (code_of n) = code_word n below in
    let size : IsWord (decimal v.width) = number_word v.width in
    let P : List read.Variable → Type 0 =
    λ l. Runs sought end past (variable_lines d clock n (v ∷ vs))
    (headed past (record past.header { variables = l })) in
    subst P (append_assoc past.header.variables (one ∷ []) others)
    (one_line (var_black v.width n (name_of d clock v) is below)
    (var_deed sought end past v.width (code_of n) (name_of d clock v) begun
    (decimal_size v.width) code.no_end is.no_end size.no_end)
    (variables_run sought end d clock next (n + 1) vs begun fewer named))

-- lines without names
keyword_black : AreBlack upscope_line
keyword_black = one_more (λ none. cc) refl (one_more (λ none. cc) refl no_word)

timescale_black : AreBlack timescale_line
timescale_black = one_more (λ none. cc) refl (one_more (λ none. cc) refl (one_more (λ none. cc) refl no_word))

end_black : AreBlack end_line
end_black = one_more (λ none. cc) refl (one_more (λ none. cc) refl no_word)

scope_black : (name : List ℕ) → IsWord name → AreBlack (scope_line name)
scope_black name is = one_more (λ none. cc) refl
    (one_more (λ none. cc) refl (black is (one_more (λ none. cc) refl no_word)))

-- ---- the scope of freed places
abbrev pub freed_header : Design → Option (List ℕ) → Header → ℕ → List Variable → Header
freed_header d clock h n [] = h
freed_header d clock h n (v ∷ vs) = without_scope
    (with_all (with_scope h (codes "freed")) (declared_in d clock (with_scope h (codes "freed")).current n (v ∷ vs)))

freed_run : (sought : Sought) (end : ℕ) (d : Design) (clock : Option (List ℕ)) (past : Past) (n : ℕ)
    (vs : List Variable)
    → past.header.ended ≡ false → n + length vs ≤ 56335895 → Named d clock vs
    → Runs sought end past (freed_lines d clock n vs) (headed past (freed_header d clock past.header n vs))
freed_run sought end d clock past n [] begun few named = no_line
freed_run sought end d clock past n (v ∷ vs) begun few named =
    let within : Past = headed past (with_scope past.header (codes "freed")) in
    let filled : Header = with_all within.header (declared_in d clock within.header.current n (v ∷ vs)) in
    one_line (scope_black (codes "freed") freed_word)
    (scope_deed sought end past (codes "freed") begun freed_word.no_end)
    (runs_join sought end within (variable_lines d clock n (v ∷ vs)) (upscope_line ∷ []) (headed past filled)
    (headed past (without_scope filled))
    (variables_run sought end d clock within n (v ∷ vs) begun few named)
    (one_line keyword_black (upscope_deed sought end (headed past filled) begun) no_line))

-- ---- the whole header
abbrev pub ports_header : List ℕ → Design → Option (List ℕ) → List Variable → Header
ports_header top d clock vs = with_all (with_scope no_header top) (declared_in d clock (Some 0) 0 vs)

abbrev pub whole_header : List ℕ → Design → Option (List ℕ) → List Variable → List Variable → Header
whole_header top d clock vs freed = record
    (without_scope (freed_header d clock (ports_header top d clock vs) (length vs) freed)) { ended = true }

-- what is asked of the names in a header
pub record CanDeclare (top : List ℕ) (d : Design) (clock : Option (List ℕ)) (vs freed : List Variable) : Type 0 where
  pub top_word : IsWord top
  pub named : Named d clock vs
  pub freed_named : Named d clock freed
  pub few : length vs + length freed ≤ 56335895

still_begun : (d : Design) (clock : Option (List ℕ)) (h : Header) (n : ℕ) (vs : List Variable) → h.ended ≡ false
    → (freed_header d clock h n vs).ended ≡ false
still_begun d clock h n [] begun = begun
still_begun d clock h n (v ∷ vs) begun = begun

pub header_run : (sought : Sought) (end : ℕ) (top : List ℕ) (d : Design) (clock : Option (List ℕ))
    (vs freed : List Variable)
    → CanDeclare top d clock vs freed
    → Runs sought end no_past (header_lines top d clock vs freed) (headed no_past (whole_header top d clock vs freed))
header_run sought end top d clock vs freed can =
    let opened : Past = headed no_past (with_scope no_header top) in
    let all = can.few in
    let few : 0 + length vs ≤ 56335895 = omega (arith, all) in
    let filled : Past = headed no_past (ports_header top d clock vs) in
    let both : Header = freed_header d clock (ports_header top d clock vs) (length vs) freed in
    let begun : both.ended ≡ false = still_begun d clock (ports_header top d clock vs) (length vs) freed refl in
    let closed : Past = headed no_past (without_scope both) in
    let last : Past = headed no_past (whole_header top d clock vs freed) in
    one_line timescale_black (timescale_deed sought end no_past refl)
    (one_line (scope_black top can.top_word) (scope_deed sought end no_past top refl can.top_word.no_end)
    (runs_join sought end opened (variable_lines d clock 0 vs ++ freed_lines d clock (length vs) freed)
    (upscope_line ∷ end_line ∷ [])
    (headed no_past both) last
    (runs_join sought end opened (variable_lines d clock 0 vs) (freed_lines d clock (length vs) freed) filled
    (headed no_past both)
    (variables_run sought end d clock opened 0 vs refl few can.named)
    (freed_run sought end d clock filled (length vs) freed refl can.few can.freed_named))
    (one_line keyword_black (upscope_deed sought end (headed no_past both) begun)
    (one_line end_black (end_deed sought end closed begun) no_line))))

-- what it has declared: the ports in the first scope, and the freed places in another
pub record Declares (h : Header) (d : Design) (clock : Option (List ℕ)) (vs freed : List Variable) : Type 0 where
  pub first : Opened
  pub more : List Opened
  pub scopes : h.scopes ≡ first ∷ more
  pub variables : h.variables ≡ declared_in d clock (Some 0) 0 vs ++ declared_in d clock (Some 1) (length vs) freed
  pub ended : h.ended ≡ true

pub whole_declares : (top : List ℕ) (d : Design) (clock : Option (List ℕ)) (vs freed : List Variable)
    → Declares (whole_header top d clock vs freed) d clock vs freed
whole_declares top d clock vs [] =
    record { first = record { around = None; name = top }; more = []; scopes = refl; variables = sym (append-nil (declared_in d clock (Some 0) 0 vs)); ended = refl }
whole_declares top d clock vs (v ∷ freed) = record { first = record { around = None; name = top }; more = (record { around = Some 0; name = codes "freed" }) ∷ []; scopes = refl; variables = refl; ended = refl }
