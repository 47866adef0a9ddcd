-- Symbols and the names of ports, one by one.
use Rattle.std.proofs.Common.{◌≡◌, ℕ, ◌+◌, ◌<◌, ◌≤◌, List, [], ◌∷◌, ◌++◌, length, take, map, get_or, Option, Some, None, refl, sym, ◌∙◌, ap, subst, arith, if◌then◌else◌, Bool, true, false}
use Rattle.std.specs.Prelude.{slice_get}
use Rattle.std.specs.Option.{option_map, option_map_or}
use Rattle.std.proofs.lemmas.List.{take_all, length-map, get_or_default}
use Rattle.std.proofs.lemmas.Option.{slice_get-map}
use Rattle.loc_base.proofs.ShelfLists.{map-take_at}
use Rattle.aiger_text.specs.declared.row.Counts.{Counts}
use Rattle.aiger_text.specs.declared.row.Section.TheVariants.{Inputs}
use Rattle.aiger_text.specs.declared.symbol.Symbol.{Symbol}
use Rattle.aiger_text.specs.Symbols.{PlainSymbol, plain}
use Rattle.aiger_text.specs.Content.{Content}
use Rattle.aiger_rules.specs.First.{first_at, first_of, is_key}
use Rattle.aiger_rules.specs.Names.{named_row, plain_byte, plain_text, symbol_of}

-- the row that a symbol names, as the code holds the symbol
abbrev pub key_of : Counts → Symbol → Option ℕ
key_of c symbol = named_row c (plain symbol)

map-map : {A B C : Type 0} (f : B → C) (g : A → B) (xs : List A) → map f (map g xs) ≡ map (λ x. f (g x)) xs
map-map f g [] = refl
map-map f g (x ∷ xs) = ap (λ ys. f (g x) ∷ ys) (map-map f g xs)

-- all symbols were met
pub symbols-all : (c : Counts) (symbols : List Symbol) (place key : ℕ) → length symbols ≤ place
    → first_of (map (key_of c) (take place symbols)) key ≡ first_of (map (named_row c) (map plain symbols)) key
symbols-all c symbols place key all =
    ap (λ xs. first_of (map (key_of c) xs) key) (take_all place symbols all) ∙ ap (λ keys. first_of keys key) (sym (map-map (named_row c) plain symbols))

pub ruleset symbol_steps = (symbols-all)

pub ruleset plain_steps = (map-take_at, take_all)

-- the name in the symbol at a place
pub plain_text-at : (symbols : List Symbol) (place : ℕ) (symbol : Symbol) → slice_get symbols place ≡ Some symbol
    → plain_text (map plain symbols) place ≡ map plain_byte symbol.text.now
plain_text-at symbols place symbol is =
    ap (λ o. option_map_or (λ (s : PlainSymbol). map plain_byte s.text) o []) (slice_get-map plain symbols place ∙ ap (option_map plain) is)

-- no symbol stands there
pub plain_text-none : (symbols : List Symbol) (place : ℕ) → slice_get symbols place ≡ None → plain_text (map plain symbols) place ≡ []
plain_text-none symbols place is =
    ap (λ o. option_map_or (λ (s : PlainSymbol). map plain_byte s.text) o []) (slice_get-map plain symbols place ∙ ap (option_map plain) is)

pub ruleset port_steps = (plain_text-at, plain_text-none)

-- a first that was found is one of the keys
first_at-within : (key at : ℕ) (keys : List (Option ℕ)) (place : ℕ) → first_at (is_key key) at keys ≡ Some place → place < at + length keys
first_at-within key at [] place is = cc
first_at-within key at (one ∷ keys) place is = found (is_key key one) is (λ same. first_at-within key (at + 1) keys place same)
  where
    found : (passes : Bool) → (if passes then Some at else first_at (is_key key) (at + 1) keys) ≡ Some place
        → (first_at (is_key key) (at + 1) keys ≡ Some place → place < at + 1 + length keys) → place < at + length (one ∷ keys)
    found true same behind = let here : at ≡ place = cc in omega (arith, here)
    found false same behind = omega (arith, behind same)

pub first_of-within : (keys : List (Option ℕ)) (key place : ℕ) → first_of keys key ≡ Some place → place < length keys
first_of-within keys key place is = omega (arith, first_at-within key 0 keys place is)

-- the symbol of a row is one of the symbols
pub symbol_of-within : (w : Content) (row place : ℕ) → symbol_of w row ≡ Some place → place < length w.symbols
symbol_of-within w row place is =
    omega (arith, first_at-within row 0 (map (named_row w.counts) w.symbols) place is, length-map w.symbols (named_row w.counts))

-- the symbol that a list is read by past its end
abbrev pub no_symbol : Symbol
no_symbol = record { section = Inputs; position = 0; text = record { ref_ptr = (0, 0); now = [] } }

-- the symbol at a place, as the code reads it
pub symbol-is : (symbols read : List Symbol) (place : ℕ) → read ≡ symbols → place < length read
    → (place < length symbols) × (get_or read place no_symbol ≡ get_or symbols place (get_or read place no_symbol))
symbol-is symbols read place is within =
    (omega (arith, ap length is), get_or_default read place no_symbol (get_or read place no_symbol) within ∙ ap (λ xs. get_or xs place (get_or read place no_symbol)) is)
