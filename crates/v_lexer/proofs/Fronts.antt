-- The longest front, by the first byte; and that it is the piece.
use Rattle.std.proofs.Common.{◌≡◌, ◌≢◌, ℕ, suc, ◌+◌, ◌≤◌, Bool, true, false, cond, ◌&&◌, List, [], ◌∷◌, ◌++◌, length, take, drop, refl, sym, ◌∙◌, ap, subst, arith, append_assoc, Option, Some, None}
use Rattle.std.specs.List.{list_all, prefix_len}
use Rattle.std.proofs.lemmas.List.Sums.{prefix_len-le-length}
use Rattle.std.proofs.lemmas.List.{append-nil}
use Rattle.loc_base.proofs.ShelfOptions.{Some-same}
use std.Path.{fun_ext}
use Rattle.v_lexer.specs.declared.pieces.Piece.{Piece}
use Rattle.v_syntax.specs.Bytes.{is_letter, is_name_byte}
use Rattle.v_lexer.specs.Directives.{word_size}
use Rattle.v_lexer.specs.Pieces.{when, run_of, kind_in, IsPiece}
use Rattle.v_lexer.specs.Longest.{longest, longer, empty_front, HasFront, HasNoFront}

drop-cons-suc : (n byte : ℕ) (text : List ℕ) → drop (1 + n) (byte ∷ text) ≡ drop n text
drop-cons-suc n byte text = subst (λ k. drop k (byte ∷ text) ≡ drop n text) (let e : suc n ≡ 1 + n = omega arith in e) refl

-- tests that agree find the same front
pub same_front : (f g : List ℕ → Option Piece) (text : List ℕ) → ((rest : List ℕ) → f rest ≡ g rest) → longest f text ≡ longest g text
same_front f g text agree = ap (λ h. longest h text) (fun_ext agree)

-- no front is a piece
pub no_front : (text : List ℕ) → longest (λ _. None) text ≡ None
no_front [] = refl
no_front (byte ∷ text) = rw (no_front text) refl

-- a front goes on behind the first byte
pub found_behind : (f g : List ℕ → Option Piece) (byte : ℕ) (text : List ℕ) (kind : Piece) (size : ℕ)
    → ((rest : List ℕ) → f (byte ∷ rest) ≡ g rest) → longest g text ≡ Some (kind, size)
    → longest f (byte ∷ text) ≡ Some (kind, suc size)
found_behind f g byte text kind size agree found =
    ap (λ r. longer r (f [])) (same_front (λ rest. f (byte ∷ rest)) g text agree ∙ found)

pub goes_on : (f g : List ℕ → Option Piece) (byte : ℕ) (text : List ℕ) (kind : Piece) (size : ℕ)
    → ((rest : List ℕ) → f (byte ∷ rest) ≡ g rest) → HasFront g text kind size
    → HasFront f (byte ∷ text) kind (1 + size)
goes_on f g byte text kind size agree front = record {
  found = found_behind f g byte text kind size agree front.found ∙ ap (λ n. Some (kind, n)) (omega arith);
  fits = omega (arith, front.fits);
}

-- there is no front behind the first byte, and what stands before it is one
pub ends_at : (f g : List ℕ → Option Piece) (byte : ℕ) (text : List ℕ) (kind : Piece)
    → ((rest : List ℕ) → f (byte ∷ rest) ≡ g rest) → HasNoFront g text → f [] ≡ Some kind
    → HasFront f (byte ∷ text) kind 0
ends_at f g byte text kind agree front here = record {
  found = ap (λ r. longer r (f [])) (same_front (λ rest. f (byte ∷ rest)) g text agree ∙ front.none) ∙ ap empty_front here;
  fits = omega arith;
}

-- the front is what stands before the first byte
pub ends_here : (f : List ℕ → Option Piece) (byte : ℕ) (text : List ℕ) (kind : Piece)
    → ((rest : List ℕ) → f (byte ∷ rest) ≡ None) → f [] ≡ Some kind
    → HasFront f (byte ∷ text) kind 0
ends_here f byte text kind none here = ends_at f (λ _. None) byte text kind none (record { none = no_front text }) here

-- nothing stands behind
pub ends_empty : (f : List ℕ → Option Piece) (kind : Piece) → f [] ≡ Some kind → HasFront f [] kind 0
ends_empty f kind here = record { found = ap empty_front here; fits = omega arith }

-- there is no front, neither here nor behind the first byte
pub none_behind : (f g : List ℕ → Option Piece) (byte : ℕ) (text : List ℕ)
    → ((rest : List ℕ) → f (byte ∷ rest) ≡ g rest) → HasNoFront g text → f [] ≡ None
    → HasNoFront f (byte ∷ text)
none_behind f g byte text agree front here = record {
  none = ap (λ r. longer r (f [])) (same_front (λ rest. f (byte ∷ rest)) g text agree ∙ front.none) ∙ ap empty_front here;
}

pub none_here : (f : List ℕ → Option Piece) (byte : ℕ) (text : List ℕ)
    → ((rest : List ℕ) → f (byte ∷ rest) ≡ None) → f [] ≡ None → HasNoFront f (byte ∷ text)
none_here f byte text none here = none_behind f (λ _. None) byte text none (record { none = no_front text }) here

pub none_empty : (f : List ℕ → Option Piece) → f [] ≡ None → HasNoFront f []
none_empty f here = record { none = ap empty_front here }

by_first : (test : ℕ → Bool) (kind : Piece) (text : List ℕ) (b : Bool)
    → longest (run_of test kind) text ≡ Some (kind, prefix_len test text)
    → longer (longest (λ rest. when (b && list_all test rest) kind) text) (Some kind) ≡ Some (kind, cond b (1 + prefix_len test text) 0)
unfolding run_of
by_first test kind text true found = rw found (ap (λ n. Some (kind, n)) (omega arith))
by_first test kind text false found = rw (no_front text) refl

found_run : (test : ℕ → Bool) (kind : Piece) (text : List ℕ) → longest (run_of test kind) text ≡ Some (kind, prefix_len test text)
unfolding run_of
found_run test kind [] = refl
found_run test kind (byte ∷ text) = by_first test kind text (test byte) (found_run test kind text)

-- a run of bytes of a class
pub run_front : (test : ℕ → Bool) (kind : Piece) (text : List ℕ) → HasFront (run_of test kind) text kind (prefix_len test text)
run_front test kind text = record { found = found_run test kind text; fits = prefix_len-le-length test text }

-- a loop on a class, and then a front
loop_step : (f : List ℕ → Option Piece) (test : ℕ → Bool) (byte : ℕ) (text : List ℕ) (kind : Piece) (size : ℕ) (b : Bool)
    → ((rest : List ℕ) → b ≡ true → f (byte ∷ rest) ≡ f rest)
    → (HasFront f (drop (prefix_len test text) text) kind size → HasFront f text kind (prefix_len test text + size))
    → HasFront f (drop (cond b (1 + prefix_len test text) 0) (byte ∷ text)) kind size
    → HasFront f (byte ∷ text) kind (cond b (1 + prefix_len test text) 0 + size)
loop_step f test byte text kind size true again below front =
    let rest : drop (1 + prefix_len test text) (byte ∷ text) ≡ drop (prefix_len test text) text = grind (arith, drop-cons-suc) in
    let moved : HasFront f (drop (prefix_len test text) text) kind size = subst (λ l. HasFront f l kind size) rest front in
    let there : HasFront f (byte ∷ text) kind (1 + (prefix_len test text + size)) =
    goes_on f f byte text kind (prefix_len test text + size) (λ more. again more refl) (below moved) in
    subst (λ n. HasFront f (byte ∷ text) kind n) (omega arith) there
loop_step f test byte text kind size false again below front = subst (λ n. HasFront f (byte ∷ text) kind n) (omega arith) front

pub loop_front : (f : List ℕ → Option Piece) (test : ℕ → Bool) (text : List ℕ) (kind : Piece) (size : ℕ)
    → ((byte : ℕ) (rest : List ℕ) → test byte ≡ true → f (byte ∷ rest) ≡ f rest)
    → HasFront f (drop (prefix_len test text) text) kind size
    → HasFront f text kind (prefix_len test text + size)
loop_front f test [] kind size again front = subst (λ n. HasFront f [] kind n) (omega arith) front
loop_front f test (byte ∷ text) kind size again front =
    loop_step f test byte text kind size (test byte) (again byte) (loop_front f test text kind size again) front

loop_none_step : (f : List ℕ → Option Piece) (test : ℕ → Bool) (byte : ℕ) (text : List ℕ) (b : Bool)
    → ((rest : List ℕ) → b ≡ true → f (byte ∷ rest) ≡ f rest) → f [] ≡ None
    → (HasNoFront f (drop (prefix_len test text) text) → HasNoFront f text)
    → HasNoFront f (drop (cond b (1 + prefix_len test text) 0) (byte ∷ text)) → HasNoFront f (byte ∷ text)
loop_none_step f test byte text true again here below front =
    let rest : drop (1 + prefix_len test text) (byte ∷ text) ≡ drop (prefix_len test text) text = grind (arith, drop-cons-suc) in
    let moved : HasNoFront f (drop (prefix_len test text) text) = subst (λ l. HasNoFront f l) rest front in
    none_behind f f byte text (λ more. again more refl) (below moved) here
loop_none_step f test byte text false again here below front = front

pub loop_none : (f : List ℕ → Option Piece) (test : ℕ → Bool) (text : List ℕ)
    → ((byte : ℕ) (rest : List ℕ) → test byte ≡ true → f (byte ∷ rest) ≡ f rest) → f [] ≡ None
    → HasNoFront f (drop (prefix_len test text) text) → HasNoFront f text
loop_none f test [] again here front = front
loop_none f test (byte ∷ text) again here front =
    loop_none_step f test byte text (test byte) (again byte) here (loop_none f test text again here) front

empty_front_none : (o : Option Piece) → empty_front o ≡ None → o ≡ None
empty_front_none None e = refl
empty_front_none (Some kind) e = cc

longer_none : (found : Option (Piece × ℕ)) (here : Option Piece) → longer found here ≡ None → (found ≡ None) × (here ≡ None)
longer_none None here e = (refl, empty_front_none here e)
longer_none (Some (kind, size)) here e = cc

-- where no front is found, none is a piece
none_found : (f : List ℕ → Option Piece) (text : List ℕ) → longest f text ≡ None
    → (more rest : List ℕ) → more ++ rest ≡ text → f more ≡ None
none_found f [] e [] rest joins = empty_front_none (f []) e
none_found f [] e (byte ∷ more) rest joins = cc
none_found f (first ∷ text) e [] rest joins = (longer_none (longest (λ rest. f (first ∷ rest)) text) (f []) e).1
none_found f (first ∷ text) e (byte ∷ more) rest joins =
    let same : byte ≡ first = cc in
    let tails : more ++ rest ≡ text = cc in
    subst (λ b. f (b ∷ more) ≡ None) (sym same)
    (none_found (λ rest. f (first ∷ rest)) text (longer_none (longest (λ rest. f (first ∷ rest)) text) (f []) e).0 more rest tails)

some_parts : (k : Piece) (m : ℕ) (l : Piece) (n : ℕ) → ◌≡◌ {A = Option (Piece × ℕ)} (Some (k, m)) (Some (l, n)) → (k ≡ l) × (m ≡ n)
some_parts k m l n e =
    let kinds : k ≡ l = ap (λ (p : Piece × ℕ). p.0) (Some-same e) in
    let sizes : m ≡ n = ap (λ (p : Piece × ℕ). p.1) (Some-same e) in
    (kinds, sizes)

-- the front found is a piece, and none that is longer
pub record IsFront (f : List ℕ → Option Piece) (text : List ℕ) (kind : Piece) (size : ℕ) : Type 0 where
  pub is_one : f (take size text) ≡ Some kind
  pub longest : (more rest : List ℕ) → more ++ rest ≡ drop size text → more ≢ [] → f (take size text ++ more) ≡ None
  pub fits : size ≤ length text

at_empty : (f : List ℕ → Option Piece) (text : List ℕ) (o : Option Piece) (kind : Piece) (size : ℕ)
    → f [] ≡ o → ((more rest : List ℕ) → more ++ rest ≡ text → more ≢ [] → f more ≡ None)
    → empty_front o ≡ Some (kind, size) → IsFront f text kind size
at_empty f text None kind size here none e = absurd (cc)
at_empty f text (Some found) kind size here none e =
    let kinds : found ≡ kind = (some_parts found 0 kind size e).0 in
    let sizes : 0 ≡ size = (some_parts found 0 kind size e).1 in
    subst (λ n. IsFront f text kind n) sizes (record { is_one = here ∙ ap (λ k. Some k) kinds; longest = none; fits = omega arith })

behind_first : (f : List ℕ → Option Piece) (first : ℕ) (text : List ℕ) (kind : Piece) (size : ℕ)
    → IsFront (λ rest. f (first ∷ rest)) text kind size → IsFront f (first ∷ text) kind (suc size)
behind_first f first text kind size front = record { is_one = front.is_one; longest = front.longest; fits = omega (arith, front.fits) }

more_none : (f : List ℕ → Option Piece) (first : ℕ) (text : List ℕ) → longest (λ rest. f (first ∷ rest)) text ≡ None
    → (more rest : List ℕ) → more ++ rest ≡ first ∷ text → more ≢ [] → f more ≡ None
more_none f first text e [] rest joins some = absurd (some refl)
more_none f first text e (byte ∷ more) rest joins some =
    let same : byte ≡ first = cc in
    let tails : more ++ rest ≡ text = cc in
    subst (λ b. f (b ∷ more) ≡ None) (sym same) (none_found (λ rest. f (first ∷ rest)) text e more rest tails)

by_found : (f : List ℕ → Option Piece) (first : ℕ) (text : List ℕ) (kind : Piece) (size : ℕ) (found : Option (Piece × ℕ))
    → longest (λ rest. f (first ∷ rest)) text ≡ found
    → ((kind : Piece) (size : ℕ) → longest (λ rest. f (first ∷ rest)) text ≡ Some (kind, size) → IsFront (λ rest. f (first ∷ rest)) text kind size)
    → longer found (f []) ≡ Some (kind, size) → IsFront f (first ∷ text) kind size
by_found f first text kind size None is below e =
    at_empty f (first ∷ text) (f []) kind size refl (more_none f first text is) e
by_found f first text kind size (Some (k, n)) is below e =
    let kinds : k ≡ kind = (some_parts k (suc n) kind size e).0 in
    let sizes : suc n ≡ size = (some_parts k (suc n) kind size e).1 in
    subst (λ m. IsFront f (first ∷ text) kind m) sizes
    (subst (λ q. IsFront f (first ∷ text) q (suc n)) kinds (behind_first f first text k n (below k n is)))

nothing_more : (more rest : List ℕ) → more ++ rest ≡ [] → more ≢ [] → (f : List ℕ → Option Piece) → f more ≡ None
nothing_more [] rest joins some f = absurd (some refl)
nothing_more (byte ∷ more) rest joins some f = absurd (cc)

-- what `longest` finds is the longest front that is a piece
pub is_front : (f : List ℕ → Option Piece) (text : List ℕ) (kind : Piece) (size : ℕ) → longest f text ≡ Some (kind, size) → IsFront f text kind size
is_front f [] kind size e = at_empty f [] (f []) kind size refl (λ more rest joins some. nothing_more more rest joins some f) e
is_front f (first ∷ text) kind size e =
    by_found f first text kind size (longest (λ rest. f (first ∷ rest)) text) refl (λ k n found. is_front (λ rest. f (first ∷ rest)) text k n found) e

-- so what is found among the kinds of a text is its first piece
pub first_piece : (skipping : Bool) (text : List ℕ) (kind : Piece) (size : ℕ) → longest (kind_in skipping) text ≡ Some (kind, size)
    → IsPiece skipping kind (take size text) (drop size text)
first_piece skipping text kind size e =
    let front = is_front (kind_in skipping) text kind size e in record { is_one = front.is_one; longest = front.longest }

stops_at : (test : ℕ → Bool) (byte first : ℕ) (text tail : List ℕ) (b : Bool) → test first ≡ b
    → (drop (prefix_len test text) text ≡ byte ∷ tail → test byte ≡ false)
    → drop (cond b (1 + prefix_len test text) 0) (first ∷ text) ≡ byte ∷ tail → test byte ≡ false
stops_at test byte first text tail true is below e = below (sym (drop-cons-suc (prefix_len test text) first text) ∙ e)
stops_at test byte first text tail false is below e = let same : first ≡ byte = cc in ap test (sym same) ∙ is

-- the byte behind a run of a class is none of the class
pub head_stops : (test : ℕ → Bool) (byte : ℕ) (text tail : List ℕ) → drop (prefix_len test text) text ≡ byte ∷ tail → test byte ≡ false
head_stops test byte [] tail e = absurd (cc)
head_stops test byte (first ∷ text) tail e = stops_at test byte first text tail (test first) refl (head_stops test byte text tail) e

-- the first byte is none of a class of which there is no run
pub first_stops : (test : ℕ → Bool) (byte : ℕ) (text tail : List ℕ) → prefix_len test text ≡ 0 → text ≡ byte ∷ tail → test byte ≡ false
first_stops test byte text tail none e =
    head_stops test byte text tail (ap (λ n. drop n text) none ∙ e)

no_run_step : (test : ℕ → Bool) (first : ℕ) (text : List ℕ) (b : Bool) → test first ≡ b
    → prefix_len test (drop (prefix_len test text) text) ≡ 0
    → prefix_len test (drop (cond b (1 + prefix_len test text) 0) (first ∷ text)) ≡ 0
no_run_step test first text true is below = ap (prefix_len test) (drop-cons-suc (prefix_len test text) first text) ∙ below
no_run_step test first text false is below = ap (λ b. cond b (1 + prefix_len test text) 0) is

-- behind a run of a class there is no run of it
pub no_run : (test : ℕ → Bool) (text : List ℕ) → prefix_len test (drop (prefix_len test text) text) ≡ 0
no_run test [] = refl
no_run test (first ∷ text) = no_run_step test first text (test first) refl (no_run test text)

-- tests that agree at nothing and behind the first byte find the same front
same_longest : (f g : List ℕ → Option Piece) (byte : ℕ) (text : List ℕ) → f [] ≡ g [] → ((rest : List ℕ) → f (byte ∷ rest) ≡ g (byte ∷ rest))
    → longest f (byte ∷ text) ≡ longest g (byte ∷ text)
same_longest f g byte text here agree =
    ap (λ r. longer r (f [])) (same_front (λ rest. f (byte ∷ rest)) (λ rest. g (byte ∷ rest)) text agree)
    ∙ ap (longer (longest (λ rest. g (byte ∷ rest)) text)) here

-- a word of a class, and then a front that depends on the word
word_then : (List ℕ → List ℕ → Option Piece) → (ℕ → Bool) → List ℕ → List ℕ → Option Piece
word_then g test read rest = g (read ++ take (prefix_len test rest) rest) (drop (prefix_len test rest) rest)

word_step : (g : List ℕ → List ℕ → Option Piece) (test : ℕ → Bool) (read : List ℕ) (first : ℕ) (rest : List ℕ) → test first ≡ true
    → word_then g test read (first ∷ rest) ≡ word_then g test (read ++ first ∷ []) rest
unfolding word_then
word_step g test read first rest is =
    let n : ℕ = prefix_len test rest in
    ap (λ b. g (read ++ take (cond b (1 + n) 0) (first ∷ rest)) (drop (cond b (1 + n) 0) (first ∷ rest))) is
    ∙ ap (λ k. g (read ++ take k (first ∷ rest)) (drop k (first ∷ rest))) (let e : 1 + n ≡ suc n = omega arith in e)
    ∙ ap (λ l. g l (drop n rest)) (sym (append_assoc read (first ∷ []) (take n rest)))

word_stop : (g : List ℕ → List ℕ → Option Piece) (test : ℕ → Bool) (read : List ℕ) (first : ℕ) (rest : List ℕ) → test first ≡ false
    → word_then g test read (first ∷ rest) ≡ g read (first ∷ rest)
unfolding word_then
word_stop g test read first rest is =
    let n : ℕ = prefix_len test rest in
    ap (λ b. g (read ++ take (cond b (1 + n) 0) (first ∷ rest)) (drop (cond b (1 + n) 0) (first ∷ rest))) is
    ∙ ap (λ l. g l (first ∷ rest)) (append-nil read)

-- the front behind the word that was read and the rest of it
WordFront : (List ℕ → List ℕ → Option Piece) → (ℕ → Bool) → List ℕ → List ℕ → Piece → ℕ → Type 0
WordFront g test read text kind size =
    HasFront (g (read ++ take (prefix_len test text) text)) (drop (prefix_len test text) text) kind size
    → HasFront (word_then g test read) text kind (prefix_len test text + size)

word_front_step : (g : List ℕ → List ℕ → Option Piece) (test : ℕ → Bool) (read : List ℕ) (first : ℕ) (text : List ℕ) (kind : Piece) (size : ℕ) (b : Bool) → test first ≡ b
    → WordFront g test (read ++ first ∷ []) text kind size
    → HasFront (g (read ++ take (cond b (1 + prefix_len test text) 0) (first ∷ text))) (drop (cond b (1 + prefix_len test text) 0) (first ∷ text)) kind size
    → HasFront (word_then g test read) (first ∷ text) kind (cond b (1 + prefix_len test text) 0 + size)
unfolding WordFront word_then
word_front_step g test read first text kind size true is below front =
    let n : ℕ = prefix_len test text in
    let one : 1 + n ≡ suc n = omega arith in
    let moved : HasFront (g (read ++ first ∷ take n text)) (drop n text) kind size =
    subst (λ k. HasFront (g (read ++ take k (first ∷ text))) (drop k (first ∷ text)) kind size) one front in
    let joined : HasFront (g ((read ++ first ∷ []) ++ take n text)) (drop n text) kind size =
    subst (λ l. HasFront (g l) (drop n text) kind size) (sym (append_assoc read (first ∷ []) (take n text))) moved in
    let there : HasFront (word_then g test read) (first ∷ text) kind (1 + (n + size)) =
    goes_on (word_then g test read) (word_then g test (read ++ first ∷ [])) first text kind (n + size) (λ m. word_step g test read first m is) (below joined) in
    subst (λ k. HasFront (word_then g test read) (first ∷ text) kind k) (omega arith) there
word_front_step g test read first text kind size false is below front =
    let here : HasFront (g read) (first ∷ text) kind size = subst (λ l. HasFront (g l) (first ∷ text) kind size) (append-nil read) front in
    record {
      found = same_longest (word_then g test read) (g read) first text (ap (λ l. g l []) (append-nil read)) (λ m. word_stop g test read first m is)
          ∙ here.found ∙ ap (λ k. Some (kind, k)) (omega arith);
      fits = omega (arith, here.fits);
    }

at_nothing : (g : List ℕ → List ℕ → Option Piece) (test : ℕ → Bool) (read : List ℕ) (kind : Piece) (size : ℕ)
    → ◌≡◌ {A = Option (Piece × ℕ)} (empty_front (g (read ++ []) [])) (Some (kind, size)) → ◌≡◌ {A = Option (Piece × ℕ)} (empty_front (g (read ++ []) [])) (Some (kind, 0 + size))
at_nothing g test read kind size e = e ∙ ap (λ k. Some (kind, k)) (omega arith)

word_front : (g : List ℕ → List ℕ → Option Piece) (test : ℕ → Bool) (read text : List ℕ) (kind : Piece) (size : ℕ) → WordFront g test read text kind size
unfolding WordFront word_then
word_front g test read [] kind size = λ front. record {
  found = at_nothing g test read kind size front.found;
  fits = omega (arith, front.fits);
}
word_front g test read (first ∷ text) kind size =
    λ front. word_front_step g test read first text kind size (test first) refl (word_front g test (read ++ first ∷ []) text kind size) front

-- the word is a simple identifier
BehindWord : (List ℕ → List ℕ → Option Piece) → List ℕ → Option Piece
BehindWord g rest = g (take (word_size rest) rest) (drop (word_size rest) rest)

identifier_step : (g : List ℕ → List ℕ → Option Piece) (first : ℕ) (rest : List ℕ) → is_letter first ≡ true
    → BehindWord g (first ∷ rest) ≡ word_then g is_name_byte (first ∷ []) rest
unfolding BehindWord word_then word_size
identifier_step g first rest is =
    let n : ℕ = prefix_len is_name_byte rest in
    ap (λ b. g (take (cond b (1 + n) 0) (first ∷ rest)) (drop (cond b (1 + n) 0) (first ∷ rest))) is
    ∙ ap (λ k. g (take k (first ∷ rest)) (drop k (first ∷ rest))) (let e : 1 + n ≡ suc n = omega arith in e)

identifier_stop : (g : List ℕ → List ℕ → Option Piece) (first : ℕ) (rest : List ℕ) → is_letter first ≡ false
    → BehindWord g (first ∷ rest) ≡ g [] (first ∷ rest)
unfolding BehindWord word_size
identifier_stop g first rest is =
    ap (λ b. g (take (cond b (1 + prefix_len is_name_byte rest) 0) (first ∷ rest)) (drop (cond b (1 + prefix_len is_name_byte rest) 0) (first ∷ rest))) is

identifier_front : (g : List ℕ → List ℕ → Option Piece) (first : ℕ) (text : List ℕ) (kind : Piece) (size : ℕ) (b : Bool) → is_letter first ≡ b
    → HasFront (g (take (cond b (1 + prefix_len is_name_byte text) 0) (first ∷ text))) (drop (cond b (1 + prefix_len is_name_byte text) 0) (first ∷ text)) kind size
    → HasFront (BehindWord g) (first ∷ text) kind (cond b (1 + prefix_len is_name_byte text) 0 + size)
unfolding BehindWord WordFront word_size
identifier_front g first text kind size true is front =
    let n : ℕ = prefix_len is_name_byte text in
    let one : 1 + n ≡ suc n = omega arith in
    let moved : HasFront (g ((first ∷ []) ++ take n text)) (drop n text) kind size =
    subst (λ k. HasFront (g (take k (first ∷ text))) (drop k (first ∷ text)) kind size) one front in
    let there : HasFront (BehindWord g) (first ∷ text) kind (1 + (n + size)) =
    goes_on (BehindWord g) (word_then g is_name_byte (first ∷ [])) first text kind (n + size) (λ m. identifier_step g first m is)
    (word_front g is_name_byte (first ∷ []) text kind size moved) in
    subst (λ k. HasFront (BehindWord g) (first ∷ text) kind k) (omega arith) there
identifier_front g first text kind size false is front = record {
  found = same_longest (BehindWord g) (g []) first text refl (λ m. identifier_stop g first m is) ∙ front.found ∙ ap (λ k. Some (kind, k)) (omega arith);
  fits = omega (arith, front.fits);
}

pub behind_word : (g : List ℕ → List ℕ → Option Piece) (text : List ℕ) (kind : Piece) (size : ℕ)
    → HasFront (g (take (word_size text) text)) (drop (word_size text) text) kind size
    → HasFront (λ rest. g (take (word_size rest) rest) (drop (word_size rest) rest)) text kind (word_size text + size)
unfolding BehindWord word_size
behind_word g [] kind size front = record {
  found = front.found ∙ ap (λ k. Some (kind, k)) (omega arith);
  fits = omega (arith, front.fits);
}
behind_word g (first ∷ text) kind size front = identifier_front g first text kind size (is_letter first) refl front

-- nothing stands behind all of the bytes
pub drop_all : (bytes : List ℕ) → drop (length bytes) bytes ≡ []
drop_all [] = refl
drop_all (byte ∷ bytes) = drop_all bytes

-- a front of bytes that are equal
pub at_rest : (f : List ℕ → Option Piece) (rest bytes : List ℕ) (kind : Piece) (size : ℕ) → rest ≡ bytes → HasFront f bytes kind size → HasFront f rest kind size
at_rest f rest bytes kind size e front = subst (λ r. HasFront f r kind size) (sym e) front

pub none_at_rest : (f : List ℕ → Option Piece) (rest bytes : List ℕ) → rest ≡ bytes → HasNoFront f bytes → HasNoFront f rest
none_at_rest f rest bytes e front = subst (λ r. HasNoFront f r) (sym e) front
