-- One assignment of a well-formed design, carried out on words.
use Rattle.std.proofs.Common.{◌≡◌, ◌≢◌, ℕ, zero, suc, ◌+◌, ◌<◌, ◌≤◌, ◌^◌, ◌%◌, ◌⊎◌, inl, inr, Bool, true, false, nat_lt, nat_le, ◌==◌, ◌&&◌, List, [], ◌∷◌, length, get_or, refl, ap, sym, ◌∙◌, subst, arith}
use Rattle.std.specs.Prelude.{slice_get, slice_set, Option, Some, None}
use Rattle.std.specs.Option.{option_map_or}
use Rattle.std.specs.List.{list_all}
use Rattle.std.proofs.lemmas.Grind.{common_steps}
use Rattle.std.proofs.lemmas.Nat.Bits.{bit_at_above}
use Rattle.std.proofs.lemmas.Option.{slice_get-get_or}
use Rattle.std.proofs.Math.Seq.{map-set_same}
use Rattle.std.proofs.Math.Path.{fun_ext}
use Rattle.std.specs.Int.{bit_at}
use Rattle.loc_base.proofs.BitLaws.{bit_at-mod_low}
use Rattle.loc_base.specs.declared.bits.Bits.{Bits}
use Rattle.loc_base.specs.declared.span.Span.{Span}
use Rattle.loc_base.specs.Bits.{width_of, value_of, bit_of}
use Rattle.loc_base.proofs.ShelfLists.{slice_get-at}
use Rattle.loc_base.proofs.ShelfOptions.{Some-same}
use Rattle.design_core.specs.declared.signal.Signal.{Signal}
use Rattle.design_core.specs.declared.statement.Part.{Part}
use Rattle.design_core.specs.declared.statement.Part.TheVariants.{Whole}
use Rattle.design_core.specs.declared.statement.Target.{Target}
use Rattle.design_core.specs.declared.expression.Typed.{Typed}
use Rattle.design_core.specs.declared.driver.Driver.{Driver}
use Rattle.design_core.specs.declared.driver.Driver.TheVariants.{Cont, Comb}
use Rattle.design_core.specs.declared.place.Place.{Place}
use Rattle.design_core.specs.declared.design.Design.{Design}
use Rattle.design_core.specs.Valuation.{Valuation, bit, width_at}
use Rattle.design_core.specs.Words.{valuation_of, AreWordsOf}
use Rattle.plain_values.proofs.EvaluateWords.{word-width, words-length}
use Rattle.design_core.specs.Store.{parts_width}
use Rattle.design_core.specs.Value.{value}
use Rattle.design_core.specs.After.{Choice}
use Rattle.design_core.specs.Cycle.{cont_assigned}
use Rattle.design_core.specs.declared.statement.Stmt.{Stmt}
use Rattle.design_core.specs.WellFormed.{IsWellFormed, is_width, typed_fits, assignment_fits, place_fits, driver_fits}
use Rattle.plain_list.specs.Network.{with_net, whole_of, step}
use Rattle.plain_list.specs.Trial.{AreNumbersFor}
use Rattle.design_core.specs.Explained.{number_for, is_one_of, place_width}
use Rattle.plain_list.proofs.Settled.{whole_of-parts, same_or_not, lt_or_ge, step-is, with_net-at, with_net-high, with_net-other}

pub both_true : (x y : Bool) → (x && y) ≡ true → (x ≡ true) × (y ≡ true)
both_true true y e = (refl, e)
both_true false y e = absurd (cc)

pub list_all-at : {X : Type 0} (p : X → Bool) (xs : List X) (i : ℕ) (x : X) → list_all p xs ≡ true → slice_get xs i ≡ Some x → p x ≡ true
list_all-at p [] i x h e = absurd (cc)
list_all-at p (y ∷ xs) zero x h e = ap p (sym (Some-same e)) ∙ (both_true (p y) (list_all p xs) h).0
list_all-at p (y ∷ xs) (suc i) x h e = list_all-at p xs i x (both_true (p y) (list_all p xs) h).1 e

-- what a continuous assignment to one whole net has in a well-formed design
pub record Fits (d : Design) (s : ℕ) (computed : Typed) (place : Option ℕ) : Type 0 where
  pub signal : s < length d.signals.items
  pub least : 1 ≤ width_at d.signals.items s
  pub typed : typed_fits d.signals.items computed ≡ true
  pub wide : width_at d.signals.items s ≤ computed.width
  pub of_place : (p : ℕ) → place ≡ Some p → place_width d p ≡ width_at d.signals.items s

pub place_fits-width : (d : Design) (width p : ℕ) → place_fits d.places.items width p ≡ true → place_width d p ≡ width
place_fits-width d width p h = by_place (slice_get d.places.items p) refl
  where
    by_place : (o : Option Place) → slice_get d.places.items p ≡ o → place_width d p ≡ width
    by_place None e = absurd (bad (rw e at h))
      where
        bad : false ≡ true → ⊥
        bad e = cc
    by_place (Some place) e = rw e (same (rw e at h))
      where
        same : (place.width == width) ≡ true → place.width ≡ width
        same h = grind (arith, common_steps)

pub le_test : (m n : ℕ) → nat_le m n ≡ true → m ≤ n
le_test m n h = grind (arith, common_steps)

pub lt_test : (m n : ℕ) → nat_lt m n ≡ true → m < n
lt_test m n h = grind (arith, common_steps)

pub cont_fits : (d : Design) (parts : List Part) (s : ℕ) (computed : Typed) (place : Option ℕ) → parts ≡ Whole s ∷ []
    → (assignment_fits d.signals.items parts computed && option_map_or (place_fits d.places.items (parts_width d.signals.items parts)) place true) ≡ true
    → Fits d s computed place
cont_fits d parts s computed place e h =
    whole (subst (λ ps. (assignment_fits d.signals.items ps computed && option_map_or (place_fits d.places.items (parts_width d.signals.items ps)) place true) ≡ true) e h)
  where
    signals : List Signal
    signals = d.signals.items

    W : ℕ
    W = width_at signals s

    plus : W + 0 ≡ W
    plus = omega arith

    made : (nat_lt s (length signals) ≡ true) → is_width (W + 0) ≡ true → typed_fits signals computed ≡ true → nat_le (W + 0) computed.width ≡ true
        → option_map_or (place_fits d.places.items (W + 0)) place true ≡ true → Fits d s computed place
    made at width typed wide of_place =
        record {
          signal = lt_test s (length signals) at;
          least = subst (λ n. 1 ≤ n) plus (le_test 1 (W + 0) (both_true (nat_le 1 (W + 0)) (nat_le (W + 0) 128) width).0);
          typed = typed;
          wide = subst (λ n. n ≤ computed.width) plus (le_test (W + 0) computed.width wide);
          of_place = λ p is. place_fits-width d (W + 0) p (subst (λ o. option_map_or (place_fits d.places.items (W + 0)) o true ≡ true) is of_place) ∙ plus;
        }

    whole : (assignment_fits signals (Whole s ∷ []) computed && option_map_or (place_fits d.places.items (W + 0)) place true) ≡ true → Fits d s computed place
    whole h = by_parts (both_true (assignment_fits signals (Whole s ∷ []) computed) (option_map_or (place_fits d.places.items (W + 0)) place true) h)
      where
        by_parts : (assignment_fits signals (Whole s ∷ []) computed ≡ true) × (option_map_or (place_fits d.places.items (W + 0)) place true ≡ true) → Fits d s computed place
        by_parts (a, p) =
            let three : _ × _ = both_true ((((nat_lt s (length signals) && true) && is_width (W + 0)) && typed_fits signals computed)) (nat_le (W + 0) computed.width) a in
            let two : _ × _ = both_true ((nat_lt s (length signals) && true) && is_width (W + 0)) (typed_fits signals computed) three.0 in
            let one : _ × _ = both_true (nat_lt s (length signals) && true) (is_width (W + 0)) two.0 in
            made (both_true (nat_lt s (length signals)) true one.0).0 one.1 two.1 three.1 p

pub driver-fits : (d : Design) (i s : ℕ) (target : Target) (computed : Typed) (place : Option ℕ) (span : Span) → IsWellFormed d
    → slice_get d.drivers.items i ≡ Some (Cont target computed place span) → whole_of target.parts ≡ Some s → Fits d s computed place
driver-fits d i s target computed place span w at to =
    cont_fits d target.parts s computed place (whole_of-parts target.parts s to)
    (list_all-at (driver_fits d.signals.items d.places.items) d.drivers.items i (Cont target computed place span) w.drivers at)

-- the number of a place is of the place's width
pub number_for-range : (d : Design) (places numbers : List ℕ) (p : ℕ) → AreNumbersFor d places numbers → is_one_of places p ≡ true → number_for places numbers p < 2 ^ place_width d p
number_for-range d [] numbers p a h = absurd (bad h)
  where
    bad : false ≡ true → ⊥
    bad e = cc
number_for-range d (place ∷ places) [] p a h = absurd a
number_for-range d (place ∷ places) (number ∷ numbers) p a h = by_test (λ one. number_for-range d places numbers p a.1 one) (place == p) refl
  where
    by_test : (is_one_of places p ≡ true → number_for places numbers p < 2 ^ place_width d p) → (b : Bool) → (place == p) ≡ b
        → number_for (place ∷ places) (number ∷ numbers) p < 2 ^ place_width d p
    by_test later true e = rw e (subst (λ q. number < 2 ^ place_width d q) (same e) a.0)
      where
        same : (place == p) ≡ true → place ≡ p
        same h = grind (arith, common_steps)
    by_test later false e = rw e (later (rw e at h))

pub AreNumbersFor-length : (d : Design) (places numbers : List ℕ) → AreNumbersFor d places numbers → length places ≡ length numbers
AreNumbersFor-length d [] [] a = refl
AreNumbersFor-length d [] (number ∷ numbers) a = absurd a
AreNumbersFor-length d (place ∷ places) [] a = absurd a
AreNumbersFor-length d (place ∷ places) (number ∷ numbers) a = ap suc (AreNumbersFor-length d places numbers a.1)

pub get-set_same : {X : Type 0} (xs : List X) (i : ℕ) (x : X) → i < length xs → slice_get (slice_set xs i x) i ≡ Some x
get-set_same [] i x h = absurd (omega (arith, h))
get-set_same (y ∷ xs) zero x h = refl
get-set_same (y ∷ xs) (suc i) x h = get-set_same xs i x (omega (arith, h))

pub get-set_other : {X : Type 0} (xs : List X) (i t : ℕ) (x : X) → t ≢ i → slice_get (slice_set xs i x) t ≡ slice_get xs t
get-set_other [] i t x h = refl
get-set_other (y ∷ xs) zero zero x h = absurd (h refl)
get-set_other (y ∷ xs) zero (suc t) x h = refl
get-set_other (y ∷ xs) (suc i) zero x h = refl
get-set_other (y ∷ xs) (suc i) (suc t) x h = get-set_other xs i t x (λ e. h (ap suc e))

-- a word has no bit from its width on
pub bit_of-high : (word : Bits) (b : ℕ) → width_of word ≤ b → bit_of word b ≡ false
bit_of-high word b h = rw (bit_at_above word.value word.width b word.in_range h) refl

pub valuation-high : (signals : List Signal) (words : List Bits) (s b : ℕ) → AreWordsOf signals words → width_at signals s ≤ b → valuation_of words s b ≡ false
valuation-high signals words s b a h = by_word (slice_get words s) refl
  where
    by_word : (o : Option Bits) → slice_get words s ≡ o → valuation_of words s b ≡ false
    by_word None e = rw e refl
    by_word (Some word) e = rw e (bit_of-high word b (subst (λ n. n ≤ b) (sym (word-width signals words s word a e)) h))

-- the words with one of them set are the valuation with one net given
pub valuation-set : (signals : List Signal) (words : List Bits) (s n : ℕ) (word : Bits) → AreWordsOf signals words → s < length words
    → width_of word ≡ width_at signals s → value_of word ≡ n % 2 ^ width_at signals s
    → (t b : ℕ) → valuation_of (slice_set words s word) t b ≡ with_net signals (valuation_of words) (Some s) (bit n) t b
valuation-set signals words s n word a l w v t b = elim (same_or_not t s) [
  | inl e ↦ subst (λ m. valuation_of (slice_set words s word) m b ≡ with_net signals (valuation_of words) (Some s) (bit n) m b) (sym e) (at_net (lt_or_ge b (width_at signals s)))
  | inr apart ↦ ap (λ o. option_map_or (λ x. bit_of x b) o false) (get-set_other words s t word apart) ∙ sym (with_net-other signals (valuation_of words) s t b (bit n) apart)
]
  where
    here : valuation_of (slice_set words s word) s b ≡ bit_of word b
    here = ap (λ o. option_map_or (λ x. bit_of x b) o false) (get-set_same words s word l)

    at_net : (b < width_at signals s) ⊎ (width_at signals s ≤ b) → valuation_of (slice_set words s word) s b ≡ with_net signals (valuation_of words) (Some s) (bit n) s b
    at_net (inl low) =
        here ∙ ap (λ m. bit_at m b == 1) v ∙ ap (λ m. m == 1) (bit_at-mod_low n (width_at signals s) b low)
        ∙ sym (with_net-at signals (valuation_of words) s b (bit n) low)
    at_net (inr high) =
        here ∙ bit_of-high word b (subst (λ m. m ≤ b) (sym w) high)
        ∙ sym (with_net-high signals (valuation_of words) s s b (bit n) high ∙ valuation-high signals words s b a high)

pub words-set : (signals : List Signal) (words : List Bits) (s : ℕ) (word : Bits) → AreWordsOf signals words → s < length words → width_of word ≡ width_at signals s
    → AreWordsOf signals (slice_set words s word)
words-set signals words s word a l w =
    record { widths = map-set_same width_of words s word word (w ∙ sym (word-width signals words s (get_or words s word) a (slice_get-get_or words s word l))) ∙ a.widths }

pub width-at : (signals : List Signal) (s : ℕ) (signal : Signal) → s < length signals → signal ≡ get_or signals s signal → signal.width ≡ width_at signals s
width-at signals s signal h e = sym (ap (λ o. option_map_or (λ x. x.width) o 0) (slice_get-at signals s signal h e))

pub fits-at : (d : Design) (i s : ℕ) (driver : Driver) (target : Target) (computed : Typed) (place : Option ℕ) (span : Span) (parts : List Part) (o : Option ℕ) → IsWellFormed d
    → i < length d.drivers.items → driver ≡ get_or d.drivers.items i driver → driver ≡ Cont target computed place span
    → o ≡ Some s → o ≡ whole_of parts → parts ≡ target.parts → Fits d s computed place
fits-at d i s driver target computed place span parts o w h e is some of same =
    driver-fits d i s target computed place span w (slice_get-at d.drivers.items i driver h e ∙ ap Some is) (ap whole_of (sym same) ∙ sym of ∙ some)

-- the step of a driver that assigns no whole net changes nothing
pub step-none : (d : Design) (choice : Choice) (V : Valuation) (i : ℕ) (driver : Driver) (target : Target) (computed : Typed) (place : Option ℕ) (span : Span) (parts : List Part) (o : Option ℕ)
    → i < length d.drivers.items → driver ≡ get_or d.drivers.items i driver → driver ≡ Cont target computed place span → o ≡ None → o ≡ whole_of parts → parts ≡ target.parts
    → V ≡ step d choice V i
step-none d choice V i driver target computed place span parts o h e is none of same =
    sym (step-is d choice V i (Cont target computed place span) (slice_get-at d.drivers.items i driver h e ∙ ap Some is)
    ∙ ap (λ w. with_net d.signals.items V w (bit (cont_assigned choice place (value d.signals.items V computed)))) (ap whole_of (sym same) ∙ sym of ∙ none))

pub step-comb : (d : Design) (choice : Choice) (V : Valuation) (i : ℕ) (driver : Driver) (body : Stmt) (span : Span)
    → i < length d.drivers.items → driver ≡ get_or d.drivers.items i driver → driver ≡ Comb body span → V ≡ step d choice V i
step-comb d choice V i driver body span h e is = sym (step-is d choice V i (Comb body span) (slice_get-at d.drivers.items i driver h e ∙ ap Some is))

-- the step of a driver that assigns a whole net gives it the word
pub step-some : (d : Design) (choice : Choice) (words : List Bits) (i s : ℕ) (driver : Driver) (target : Target) (computed : Typed) (place : Option ℕ) (span : Span) (parts : List Part) (o : Option ℕ) (word : Bits) (signal : Signal) (number : ℕ)
    → AreWordsOf d.signals.items words → Fits d s computed place
    → i < length d.drivers.items → driver ≡ get_or d.drivers.items i driver → driver ≡ Cont target computed place span → o ≡ Some s → o ≡ whole_of parts → parts ≡ target.parts
    → signal ≡ get_or d.signals.items s signal → width_of word ≡ signal.width → number ≡ value d.signals.items (valuation_of words) computed → value_of word ≡ cont_assigned choice place number % 2 ^ signal.width
    → valuation_of (slice_set words s word) ≡ step d choice (valuation_of words) i
step-some d choice words i s driver target computed place span parts o word signal number a fits h e is some of same sig w n v =
    fun_ext (λ t. fun_ext (λ b. valuation-set d.signals.items words s given word a at_word (w ∙ width) (v ∙ ap (λ m. cont_assigned choice place m % 2 ^ signal.width) n ∙ ap (λ m. given % 2 ^ m) width) t b))
    ∙ sym (step-is d choice (valuation_of words) i (Cont target computed place span) (slice_get-at d.drivers.items i driver h e ∙ ap Some is)
    ∙ ap (λ o. with_net d.signals.items (valuation_of words) o (bit given)) (ap whole_of (sym same) ∙ sym of ∙ some))
  where
    given : ℕ
    given = cont_assigned choice place (value d.signals.items (valuation_of words) computed)

    width : signal.width ≡ width_at d.signals.items s
    width = width-at d.signals.items s signal fits.signal sig

    at_word : s < length words
    at_word = subst (λ m. s < m) (sym (words-length d.signals.items words a)) fits.signal

pub word_set : (d : Design) (words : List Bits) (s : ℕ) (computed : Typed) (place : Option ℕ) (word : Bits) (signal : Signal) → AreWordsOf d.signals.items words → Fits d s computed place
    → signal ≡ get_or d.signals.items s signal → width_of word ≡ signal.width → AreWordsOf d.signals.items (slice_set words s word)
word_set d words s computed place word signal a fits sig w =
    words-set d.signals.items words s word a (subst (λ m. s < m) (sym (words-length d.signals.items words a)) fits.signal) (w ∙ width-at d.signals.items s signal fits.signal sig)
