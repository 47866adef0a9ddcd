-- The fronts of symbols, of comments and of attributes.
use Rattle.std.proofs.Common.{◌≡◌, ◌≢◌, ℕ, ◌+◌, ◌<◌, get_or, Bool, true, false, cond, ◌&&◌, List, [], ◌∷◌, length, drop, refl, sym, ◌∙◌, ap, subst, arith, Option, None}
use Rattle.std.specs.Prelude.{nat_eq}
use Rattle.std.specs.List.{prefix_len}
use Rattle.std.proofs.lemmas.Bool.{ne_eqb}
use Rattle.v_lexer.specs.declared.pieces.Piece.{Piece}
use Rattle.v_lexer.specs.declared.pieces.Piece.TheVariants.{Blank, OpenComment, Symbol}
use Rattle.v_syntax.specs.Bytes.{is_mark, is_white, not_newline}
use Rattle.v_lexer.specs.Symbols.{is_double, is_triple}
use Rattle.v_lexer.specs.Directives.{is_nothing}
use Rattle.v_lexer.specs.Pieces.{when, if_all, run_of, symbol_rest, block_rest, slash_rest, attribute_rest, paren_rest}
use Rattle.v_lexer.specs.Longest.{HasFront, HasNoFront}
use Rattle.v_syntax.proofs.Digits.{drop_at}
use Rattle.v_lexer.proofs.Fronts.{at_rest, goes_on, ends_at, ends_here, ends_empty, none_behind, none_here, none_empty, none_at_rest, run_front, loop_front, loop_none, head_stops, drop_all}
use Rattle.v_lexer.proofs.DirectiveRows.{nothing_front}

-- behind two bytes, and behind three
two : ℕ → ℕ → List ℕ → Option Piece
two first second rest = symbol_rest first (second ∷ rest)

three : ℕ → ℕ → ℕ → List ℕ → Option Piece
three first second third rest = symbol_rest first (second ∷ third ∷ rest)

three_front : (first second third : ℕ) (rest : List ℕ) → is_triple first second third ≡ true → HasFront (three first second third) rest Symbol 0
unfolding three symbol_rest
three_front first second third [] is_so = ends_empty (three first second third) Symbol (ap (λ b. when b Symbol) is_so)
three_front first second third (byte ∷ rest) is_so = ends_here (three first second third) byte rest Symbol (λ m. refl) (ap (λ b. when b Symbol) is_so)

three_none : (first second third : ℕ) (rest : List ℕ) → is_triple first second third ≡ false → HasNoFront (three first second third) rest
unfolding three symbol_rest
three_none first second third [] not_so = none_empty (three first second third) (ap (λ b. when b Symbol) not_so)
three_none first second third (byte ∷ rest) not_so = none_here (three first second third) byte rest (λ m. refl) (ap (λ b. when b Symbol) not_so)

-- no third byte makes a symbol of three
abbrev NoThird : ℕ → ℕ → List ℕ → Type 0
NoThird first second [] = Unit {0}
NoThird first second (third ∷ rest) = is_triple first second third ≡ false

two_front : (first second : ℕ) (rest : List ℕ) → NoThird first second rest → is_double first second ≡ true → HasFront (two first second) rest Symbol 0
unfolding two three symbol_rest
two_front first second [] not_so is_so = ends_empty (two first second) Symbol (ap (λ b. when b Symbol) is_so)
two_front first second (third ∷ rest) not_so is_so =
    ends_at (two first second) (three first second third) third rest Symbol (λ m. refl) (three_none first second third rest not_so) (ap (λ b. when b Symbol) is_so)

two_none : (first second : ℕ) (rest : List ℕ) → NoThird first second rest → is_double first second ≡ false → HasNoFront (two first second) rest
unfolding two three symbol_rest
two_none first second [] not_so none = none_empty (two first second) (ap (λ b. when b Symbol) none)
two_none first second (third ∷ rest) not_so none =
    none_behind (two first second) (three first second third) third rest (λ m. refl) (three_none first second third rest not_so) (ap (λ b. when b Symbol) none)

-- a symbol of one byte or of two
by_double : (first second : ℕ) (tail : List ℕ) (b : Bool) → is_double first second ≡ b → NoThird first second tail → is_mark first ≡ true
    → HasFront (symbol_rest first) (second ∷ tail) Symbol (cond b 1 0)
unfolding two symbol_rest
by_double first second tail true is third mark =
    subst (λ n. HasFront (symbol_rest first) (second ∷ tail) Symbol n) (omega arith)
    (goes_on (symbol_rest first) (two first second) second tail Symbol 0 (λ m. refl) (two_front first second tail third is))
by_double first second tail false is third mark =
    ends_at (symbol_rest first) (two first second) second tail Symbol (λ m. refl) (two_none first second tail third is) (ap (λ b. when b Symbol) mark)

pub symbol_alone : (first : ℕ) (rest : List ℕ) → rest ≡ [] → is_mark first ≡ true → HasFront (symbol_rest first) rest Symbol 0
unfolding symbol_rest
symbol_alone first rest e mark = at_rest (symbol_rest first) rest [] Symbol 0 e (ends_empty (symbol_rest first) Symbol (ap (λ b. when b Symbol) mark))

pub symbol_last : (first second size : ℕ) (rest tail : List ℕ) → rest ≡ second ∷ tail → tail ≡ [] → is_mark first ≡ true
    → size ≡ cond (is_double first second) 1 0 → HasFront (symbol_rest first) rest Symbol size
symbol_last first second size rest tail e end mark sized =
    at_rest (symbol_rest first) rest (second ∷ tail) Symbol size e
    (subst (λ n. HasFront (symbol_rest first) (second ∷ tail) Symbol n) (sym sized)
    (by_double first second tail (is_double first second) refl (subst (λ l. NoThird first second l) (sym end) tt) mark))

pub symbol_short : (first second third size : ℕ) (rest tail more : List ℕ) → rest ≡ second ∷ tail → tail ≡ third ∷ more → is_mark first ≡ true
    → is_triple first second third ≡ false → size ≡ cond (is_double first second) 1 0 → HasFront (symbol_rest first) rest Symbol size
symbol_short first second third size rest tail more e then mark not_so sized =
    at_rest (symbol_rest first) rest (second ∷ tail) Symbol size e
    (subst (λ n. HasFront (symbol_rest first) (second ∷ tail) Symbol n) (sym sized)
    (by_double first second tail (is_double first second) refl (subst (λ l. NoThird first second l) (sym then) not_so) mark))

pub symbol_triple : (first second third : ℕ) (rest tail more : List ℕ) → rest ≡ second ∷ tail → tail ≡ third ∷ more
    → is_triple first second third ≡ true → HasFront (symbol_rest first) rest Symbol 2
unfolding two three symbol_rest
symbol_triple first second third rest tail more e then is_so =
    at_rest (symbol_rest first) rest (second ∷ third ∷ more) Symbol 2 (e ∙ ap (λ l. second ∷ l) then)
    (subst (λ n. HasFront (symbol_rest first) (second ∷ third ∷ more) Symbol n) (omega arith)
    (goes_on (symbol_rest first) (two first second) second (third ∷ more) Symbol (1 + 0) (λ m. refl)
    (goes_on (two first second) (three first second third) third more Symbol 0 (λ m. refl) (three_front first second third more is_so))))

-- a block comment or an attribute goes on behind a byte that doesn't close it
pub block_goes : (close : ℕ) (star : Bool) (byte size : ℕ) (rest : List ℕ) (kind : Piece) → (star && nat_eq byte close) ≡ false
    → HasFront (block_rest close (nat_eq byte 42)) rest kind size → HasFront (block_rest close star) (byte ∷ rest) kind (1 + size)
unfolding block_rest
block_goes close star byte size rest kind open_yet front =
    goes_on (block_rest close star) (block_rest close (nat_eq byte 42)) byte rest kind size
    (λ m. ap (λ b. cond b (when (is_nothing m) Blank) (block_rest close (nat_eq byte 42) m)) open_yet) front

pub block_closes : (close : ℕ) (star : Bool) (byte : ℕ) (rest : List ℕ) → (star && nat_eq byte close) ≡ true
    → HasFront (block_rest close star) (byte ∷ rest) Blank (1 + 0)
unfolding block_rest if_all
block_closes close star byte rest closed =
    goes_on (block_rest close star) (if_all is_nothing Blank) byte rest Blank 0
    (λ m. ap (λ b. cond b (when (is_nothing m) Blank) (block_rest close (nat_eq byte 42) m)) closed) (nothing_front Blank rest)

pub block_ends : (close : ℕ) (star : Bool) → HasFront (block_rest close star) [] OpenComment 0
unfolding block_rest
block_ends close star = ends_empty (block_rest close star) OpenComment refl

-- what its bytes up to a place leave
abbrev pub BlockFrom : ℕ → Bool → List ℕ → ℕ → Bool → Type 0
BlockFrom close begin bytes i star =
    (kind : Piece) (size : ℕ) → HasFront (block_rest close star) (drop i bytes) kind size → HasFront (block_rest close begin) bytes kind (i + size)

pub block_more : (close : ℕ) (begin : Bool) (bytes : List ℕ) (i : ℕ) (star : Bool) → i < length bytes → (star && nat_eq (get_or bytes i 0) close) ≡ false
    → BlockFrom close begin bytes i star → BlockFrom close begin bytes (i + 1) (nat_eq (get_or bytes i 0) 42)
block_more close begin bytes i star within not_closed before kind size front =
    let byte : ℕ = get_or bytes i 0 in
    let here : HasFront (block_rest close star) (drop i bytes) kind (1 + size) =
    at_rest (block_rest close star) (drop i bytes) (byte ∷ drop (i + 1) bytes) kind (1 + size) (drop_at bytes i within)
    (block_goes close star byte size (drop (i + 1) bytes) kind not_closed front) in
    subst (λ n. HasFront (block_rest close begin) bytes kind n) (omega arith) (before kind (1 + size) here)

pub block_closed : (close : ℕ) (begin : Bool) (bytes : List ℕ) (i : ℕ) (star : Bool) → i < length bytes → (star && nat_eq (get_or bytes i 0) close) ≡ true
    → BlockFrom close begin bytes i star → HasFront (block_rest close begin) bytes Blank (i + 1)
block_closed close begin bytes i star within closed before =
    let byte : ℕ = get_or bytes i 0 in
    let here : HasFront (block_rest close star) (drop i bytes) Blank (1 + 0) =
    at_rest (block_rest close star) (drop i bytes) (byte ∷ drop (i + 1) bytes) Blank (1 + 0) (drop_at bytes i within)
    (block_closes close star byte (drop (i + 1) bytes) closed) in
    before Blank (1 + 0) here

pub block_open : (close : ℕ) (begin : Bool) (bytes : List ℕ) (i : ℕ) (star : Bool) → i ≡ length bytes → BlockFrom close begin bytes i star
    → HasFront (block_rest close begin) bytes OpenComment (length bytes)
block_open close begin bytes i star end before =
    let nothing : drop i bytes ≡ [] = ap (λ n. drop n bytes) end ∙ drop_all bytes in
    subst (λ n. HasFront (block_rest close begin) bytes OpenComment n) (omega arith)
    (before OpenComment 0 (at_rest (block_rest close star) (drop i bytes) [] OpenComment 0 nothing (block_ends close star)))

-- the rows of a slash
pub slash_alone : (rest : List ℕ) → rest ≡ [] → HasFront slash_rest rest Symbol 0
unfolding slash_rest
slash_alone rest e = at_rest slash_rest rest [] Symbol 0 e (ends_empty slash_rest Symbol refl)

pub slash_line : (rest tail : List ℕ) (byte : ℕ) → rest ≡ byte ∷ tail → byte ≡ 47 → HasFront slash_rest rest Blank (1 + prefix_len not_newline tail)
unfolding slash_rest
slash_line rest tail byte e is =
    at_rest slash_rest rest (47 ∷ tail) Blank (1 + prefix_len not_newline tail) (e ∙ ap (λ b. b ∷ tail) is)
    (goes_on slash_rest (run_of not_newline Blank) 47 tail Blank (prefix_len not_newline tail) (λ m. refl) (run_front not_newline Blank tail))

pub slash_block : (rest tail : List ℕ) (byte : ℕ) (kind : Piece) (size : ℕ) → rest ≡ byte ∷ tail → byte ≡ 42 → HasFront (block_rest 47 false) tail kind size
    → HasFront slash_rest rest kind (1 + size)
unfolding slash_rest
slash_block rest tail byte kind size e is front =
    at_rest slash_rest rest (42 ∷ tail) kind (1 + size) (e ∙ ap (λ b. b ∷ tail) is)
    (goes_on slash_rest (block_rest 47 false) 42 tail kind size (λ m. refl) front)

pub slash_other : (rest tail : List ℕ) (byte : ℕ) → rest ≡ byte ∷ tail → byte ≢ 47 → byte ≢ 42 → HasFront slash_rest rest Symbol 0
unfolding slash_rest
slash_other rest tail byte e no_slash no_star =
    let eq_slash : nat_eq byte 47 ≡ false = ne_eqb byte 47 no_slash in
    let eq_star : nat_eq byte 42 ≡ false = ne_eqb byte 42 no_star in
    at_rest slash_rest rest (byte ∷ tail) Symbol 0 e
    (ends_here slash_rest byte tail Symbol
    (λ m. ap (λ b. cond b (run_of not_newline Blank m) (cond (nat_eq byte 42) (block_rest 47 false m) None)) eq_slash
    ∙ ap (λ b. cond b (block_rest 47 false m) None) eq_star) refl)

-- the rows of an attribute
attribute_loop : (byte : ℕ) (rest : List ℕ) → is_white byte ≡ true → attribute_rest (byte ∷ rest) ≡ attribute_rest rest
unfolding attribute_rest
attribute_loop byte rest white = ap (λ b. cond b (attribute_rest rest) (cond (nat_eq byte 41) None (block_rest 41 (nat_eq byte 42) rest))) white

pub attribute_opens : (rest tail : List ℕ) (byte : ℕ) (kind : Piece) (size : ℕ) → drop (prefix_len is_white rest) rest ≡ byte ∷ tail → byte ≢ 41
    → HasFront (block_rest 41 (nat_eq byte 42)) tail kind size → HasFront attribute_rest rest kind (prefix_len is_white rest + 1 + size)
unfolding attribute_rest
attribute_opens rest tail byte kind size e no_paren front =
    let white : is_white byte ≡ false = head_stops is_white byte rest tail e in
    let eq_paren : nat_eq byte 41 ≡ false = ne_eqb byte 41 no_paren in
    let there : HasFront attribute_rest (drop (prefix_len is_white rest) rest) kind (1 + size) =
    at_rest attribute_rest (drop (prefix_len is_white rest) rest) (byte ∷ tail) kind (1 + size) e
    (goes_on attribute_rest (block_rest 41 (nat_eq byte 42)) byte tail kind size
    (λ m. ap (λ b. cond b (attribute_rest m) (cond (nat_eq byte 41) None (block_rest 41 (nat_eq byte 42) m))) white
    ∙ ap (λ b. cond b None (block_rest 41 (nat_eq byte 42) m)) eq_paren) front) in
    subst (λ n. HasFront attribute_rest rest kind n) (omega arith)
    (loop_front attribute_rest is_white rest kind (1 + size) attribute_loop there)

pub attribute_is_none : (rest tail : List ℕ) (byte : ℕ) → drop (prefix_len is_white rest) rest ≡ byte ∷ tail → byte ≡ 41 → HasNoFront attribute_rest rest
unfolding attribute_rest
attribute_is_none rest tail byte e is =
    let white : is_white byte ≡ false = head_stops is_white byte rest tail e in
    loop_none attribute_rest is_white rest attribute_loop refl
    (none_at_rest attribute_rest (drop (prefix_len is_white rest) rest) (byte ∷ tail) e
    (none_here attribute_rest byte tail
    (λ m. ap (λ b. cond b (attribute_rest m) (cond (nat_eq byte 41) None (block_rest 41 (nat_eq byte 42) m))) white
    ∙ ap (λ x. cond (nat_eq x 41) None (block_rest 41 (nat_eq byte 42) m)) is) refl))

pub attribute_ends : (rest : List ℕ) → drop (prefix_len is_white rest) rest ≡ [] → HasNoFront attribute_rest rest
unfolding attribute_rest
attribute_ends rest e =
    loop_none attribute_rest is_white rest attribute_loop refl
    (none_at_rest attribute_rest (drop (prefix_len is_white rest) rest) [] e (none_empty attribute_rest refl))

-- the rows of an opening parenthesis
pub paren_alone : (rest : List ℕ) → rest ≡ [] → HasFront paren_rest rest Symbol 0
unfolding paren_rest
paren_alone rest e = at_rest paren_rest rest [] Symbol 0 e (ends_empty paren_rest Symbol refl)

pub paren_attribute : (rest tail : List ℕ) (byte : ℕ) (kind : Piece) (size : ℕ) → rest ≡ byte ∷ tail → byte ≡ 42 → HasFront attribute_rest tail kind size
    → HasFront paren_rest rest kind (1 + size)
unfolding paren_rest
paren_attribute rest tail byte kind size e is front =
    at_rest paren_rest rest (42 ∷ tail) kind (1 + size) (e ∙ ap (λ b. b ∷ tail) is)
    (goes_on paren_rest attribute_rest 42 tail kind size (λ m. refl) front)

pub paren_star : (rest tail : List ℕ) (byte : ℕ) → rest ≡ byte ∷ tail → byte ≡ 42 → HasNoFront attribute_rest tail → HasFront paren_rest rest Symbol 0
unfolding paren_rest
paren_star rest tail byte e is none =
    at_rest paren_rest rest (42 ∷ tail) Symbol 0 (e ∙ ap (λ b. b ∷ tail) is)
    (ends_at paren_rest attribute_rest 42 tail Symbol (λ m. refl) none refl)

pub paren_other : (rest tail : List ℕ) (byte : ℕ) → rest ≡ byte ∷ tail → byte ≢ 42 → HasFront paren_rest rest Symbol 0
unfolding paren_rest
paren_other rest tail byte e no_star =
    let eq_star : nat_eq byte 42 ≡ false = ne_eqb byte 42 no_star in
    at_rest paren_rest rest (byte ∷ tail) Symbol 0 e
    (ends_here paren_rest byte tail Symbol (λ m. ap (λ b. cond b (attribute_rest m) None) eq_star) refl)

pub ruleset attribute_rows = (attribute_opens, attribute_is_none, attribute_ends)

pub ruleset paren_rows = (paren_alone, paren_attribute, paren_star, paren_other)
