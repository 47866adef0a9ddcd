-- Lists of variables, one by one.
use Rattle.std.proofs.Common.{◌≡◌, ℕ, zero, suc, ◌+◌, ◌<◌, ◌≤◌, Bool, true, false, not, Some, List, [], ◌∷◌, ◌++◌, length, get_or, take, drop, sym, ◌∙◌, ap, arith, append_assoc}
use Rattle.std.specs.Prelude.{nat_le, slice_get}
use Rattle.std.specs.List.{position_or_len}
use Rattle.std.proofs.lemmas.Bool.{cond-true, cond-false}
use Rattle.std.proofs.lemmas.Bool.Decides.{nat_tests}
use Rattle.std.proofs.lemmas.List.{drop_all, take_more, length-take-le}
use Rattle.loc_base.proofs.ShelfLists.{drop-at}
use Rattle.design_core.specs.declared.design.Design.{Design}
use Rattle.vcd_waves.specs.declared.variable.Variable.{Variable}
use Rattle.vcd_waves.specs.declared.variable.Kind.{Kind}
use Rattle.vcd_waves.specs.Variables.{width_in, listed, placed_among, merged}

-- the list from a place on
pub drop-got : {X : Type 0} (xs : List X) (i : ℕ) (x : X) → slice_get xs i ≡ Some x → drop i xs ≡ x ∷ drop (i + 1) xs
drop-got [] i x got = cc
drop-got (y ∷ ys) zero x got = let same : y ≡ x = cc in cc
drop-got (y ∷ ys) (suc i) x got =
    let more : suc (i + 1) ≡ suc i + 1 = omega arith in
    drop-got ys i x got ∙ ap (λ n. x ∷ drop n (y ∷ ys)) more

-- one number more
listed_push : (d : Design) (kind : Kind) (place : ℕ) (numbers : List ℕ) (number : ℕ)
    → listed d kind place (numbers ++ number ∷ [])
    ≡ listed d kind place numbers ++ (record { kind = kind; place = place + length numbers; number = number; width = width_in d kind number }) ∷ []
listed_push d kind place [] number = ap (λ (p : ℕ). let v : Variable = record { kind = kind; place = p; number = number; width = width_in d kind number } in v ∷ []) (omega arith)
listed_push d kind place (first ∷ numbers) number =
    let more : place + 1 + length numbers ≡ place + suc (length numbers) = omega arith in
    let v : Variable = record { kind = kind; place = place; number = first; width = width_in d kind first } in
    ap (λ l. v ∷ l)
    (listed_push d kind (place + 1) numbers number
    ∙ ap (λ (p : ℕ). let w : Variable = record { kind = kind; place = p; number = number; width = width_in d kind number } in listed d kind (place + 1) numbers ++ w ∷ []) more)

pub listed_more : (d : Design) (kind : Kind) (numbers : List ℕ) (i width : ℕ) → i < length numbers → width ≡ width_in d kind (get_or numbers i 0)
    → listed d kind 0 (take (i + 1) numbers) ≡ listed d kind 0 (take i numbers) ++ (record { kind = kind; place = i; number = get_or numbers i 0; width = width }) ∷ []
listed_more d kind numbers i width within is =
    let few : 0 + length (take i numbers) ≡ i = omega (arith, length-take-le i numbers (omega arith)) in
    ap (listed d kind 0) (take_more numbers i 0 within) ∙ listed_push d kind 0 (take i numbers) (get_or numbers i 0)
    ∙ ap (λ (p : ℕ). let w : Variable = record { kind = kind; place = p; number = get_or numbers i 0; width = width_in d kind (get_or numbers i 0) } in listed d kind 0 (take i numbers) ++ w ∷ []) few
    ∙ ap (λ (n : ℕ). let w : Variable = record { kind = kind; place = i; number = get_or numbers i 0; width = n } in listed d kind 0 (take i numbers) ++ w ∷ []) (sym is)

pub ruleset list_steps = (listed_more)

-- a variable that comes before the one at a place, or after it
pub placed_here : (v : Variable) (behind : List Variable → List Variable) (others : List Variable) (i : ℕ) (x : Variable)
    → slice_get others i ≡ Some x → v.number ≤ x.number → placed_among v behind (drop i others) ≡ v ∷ behind (drop i others)
placed_here v behind others i x got low =
    let test : nat_le v.number x.number ≡ true = grind (arith, nat_tests) in
    ap (placed_among v behind) (drop-got others i x got) ∙ cond-true _ _ _ test ∙ ap (λ l. v ∷ behind l) (sym (drop-got others i x got))

pub placed_next : (v : Variable) (behind : List Variable → List Variable) (others : List Variable) (i : ℕ) (x : Variable)
    → slice_get others i ≡ Some x → x.number < v.number → placed_among v behind (drop i others) ≡ x ∷ placed_among v behind (drop (i + 1) others)
placed_next v behind others i x got high =
    let test : nat_le v.number x.number ≡ false = grind (arith, nat_tests) in
    ap (placed_among v behind) (drop-got others i x got) ∙ cond-false _ _ _ test

pub placed_last : (v : Variable) (behind : List Variable → List Variable) (others : List Variable) (i : ℕ)
    → length others ≤ i → placed_among v behind (drop i others) ≡ v ∷ behind (drop i others)
placed_last v behind others i all =
    ap (placed_among v behind) (drop_all i others all) ∙ ap (λ l. v ∷ behind l) (sym (drop_all i others all))

-- the steps of `take_below`
pub below_here : (list whole : List Variable) (v : Variable) (behind : List Variable → List Variable) (others : List Variable) (i : ℕ) (x : Variable)
    → slice_get others i ≡ Some x → v.number ≤ x.number → whole ≡ list ++ placed_among v behind (drop i others) → whole ≡ list ++ v ∷ behind (drop i others)
below_here list whole v behind others i x got low is = is ∙ ap (λ l. list ++ l) (placed_here v behind others i x got low)

pub below_next : (list new whole : List Variable) (v : Variable) (behind : List Variable → List Variable) (others : List Variable) (i : ℕ) (x : Variable)
    → slice_get others i ≡ Some x → x.number < v.number → new ≡ list ++ x ∷ [] → whole ≡ list ++ placed_among v behind (drop i others)
    → whole ≡ new ++ placed_among v behind (drop (i + 1) others)
below_next list new whole v behind others i x got high pushed is =
    is ∙ ap (λ l. list ++ l) (placed_next v behind others i x got high) ∙ sym (append_assoc list (x ∷ []) (placed_among v behind (drop (i + 1) others)))
    ∙ ap (λ l. l ++ placed_among v behind (drop (i + 1) others)) (sym pushed)

pub below_last : (list whole : List Variable) (v : Variable) (behind : List Variable → List Variable) (others : List Variable) (i : ℕ)
    → length others ≤ i → whole ≡ list ++ placed_among v behind (drop i others) → whole ≡ list ++ v ∷ behind (drop (length others) others)
below_last list whole v behind others i all is =
    is ∙ ap (λ l. list ++ l) (placed_last v behind others i all)
    ∙ ap (λ l. list ++ v ∷ behind l) (drop_all i others all ∙ sym (drop_all (length others) others (omega arith)))

-- the steps of `merged`
pub merge_next : (list taken new whole : List Variable) (variables others rest : List Variable) (i : ℕ) (v : Variable)
    → slice_get variables i ≡ Some v → new ≡ taken ++ v ∷ []
    → ((behind : List Variable → List Variable) → list ++ placed_among v behind others ≡ taken ++ v ∷ behind rest)
    → list ++ merged (drop i variables) others ≡ whole
    → new ++ merged (drop (i + 1) variables) rest ≡ whole
merge_next list taken new whole variables others rest i v got pushed step is =
    ap (λ l. l ++ merged (drop (i + 1) variables) rest) pushed ∙ append_assoc taken (v ∷ []) (merged (drop (i + 1) variables) rest) ∙ sym (step (merged (drop (i + 1) variables)))
    ∙ ap (λ l. list ++ merged l others) (sym (drop-got variables i v got)) ∙ is

pub merge_last : (list whole variables others : List Variable) (i : ℕ) → length variables ≤ i → list ++ merged (drop i variables) others ≡ whole → list ++ others ≡ whole
merge_last list whole variables others i all is = ap (λ l. list ++ merged l others) (sym (drop_all i variables all)) ∙ is

-- the first that passes a test
pub first_here : {X : Type 0} (p : X → Bool) (xs : List X) (i : ℕ) (x : X) → i < length xs → x ≡ get_or xs i x → p x ≡ true
    → i + position_or_len p (drop i xs) ≡ i
first_here p xs i x within is passes =
    ap (λ l. i + position_or_len p l) (drop-at xs i x within is) ∙ ap (λ n. i + n) (cond-false (not (p x)) _ _ (ap not passes)) ∙ omega arith

pub first_next : {X : Type 0} (p : X → Bool) (xs : List X) (i : ℕ) (x : X) → i < length xs → x ≡ get_or xs i x → p x ≡ false
    → i + position_or_len p (drop i xs) ≡ i + 1 + position_or_len p (drop (i + 1) xs)
first_next p xs i x within is fails =
    ap (λ l. i + position_or_len p l) (drop-at xs i x within is) ∙ ap (λ n. i + n) (cond-true (not (p x)) _ _ (ap not fails)) ∙ omega arith

pub first_none : {X : Type 0} (p : X → Bool) (xs : List X) (i : ℕ) → length xs ≤ i → i + position_or_len p (drop i xs) ≡ i
first_none p xs i all = ap (λ l. i + position_or_len p l) (drop_all i xs all) ∙ omega arith

pub ruleset clock_steps = (first_here, first_next, first_none)
