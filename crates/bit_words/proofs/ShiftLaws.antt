-- What a shift means: the number shifted by the number of the other word.
use Rattle.std.proofs.Common.{◌≡◌, ℕ, zero, suc, ◌+◌, ◌-◌, ◌*◌, ◌/◌, ◌%◌, ◌^◌, ◌≤◌, ◌<◌, Bool, true, false, not, leb, get_or, if◌then◌else◌, List, [], ◌∷◌, ◌++◌, length, map, replicate, take, drop, refl, sym, ◌∙◌, ap, ap₂, subst, mul_assoc, length-append, length-take, length-drop, arith, ◌⊎◌, inl, inr}
use Rattle.std.proofs.lemmas.List.{length-map, length-replicate, map-append, drop-map}
use Rattle.std.proofs.lemmas.Bool.{cases_lt, true≢false}
use Rattle.std.proofs.lemmas.Nat.{pow-add, pow_pos, shr-shr, shr_le}
use Rattle.std.proofs.Math.Nat.{add-mul-mod_self_right, mod-eq_of_lt, div-add-mod', mod-lt, mul-lt-mul_of_pos_right, mul-le-mul_left}
use Rattle.std.proofs.lemmas.Grind.{common_steps}
use Rattle.loc_base.specs.Word.{is_negative}
use Rattle.loc_base.proofs.Modulo.{shifted_out, shifted_down}
use Rattle.gate_base.specs.declared.literal.Literal.{Literal}
use Rattle.gate_base.specs.declared.literal.Literal.TheVariants.{Known}
use Rattle.gate_base.specs.declared.node.Node.{Node}
use Rattle.gate_base.specs.Nodes.{Word}
use Rattle.gate_base.specs.Meaning.{Source, Means, MeansAll, none, more, some_of}
use Rattle.gate_base.proofs.Meaning.{keep, keep_all, grown-then, chain-or}
use Rattle.bit_words.specs.declared.shift.Direction.{Direction}
use Rattle.bit_words.specs.declared.shift.Direction.TheVariants.{Left, Right}
use Rattle.bit_words.specs.Bits.{one_if, number_of, IsWord, GivesWord}
use Rattle.bit_words.specs.Choose.{chosen_bits}
use Rattle.bit_words.specs.Shift.{moved, stage_made, past_made, stages_made, shift_made, MayFill, shifted_number}
use Rattle.bit_words.proofs.Meaning.{means-as, MeansAll-append, choice-means}
use Rattle.bit_words.proofs.Numbers.{double, one_if-below, number_of-below, number_of-not, number_of-zeros, chosen-number}
use Rattle.bit_words.proofs.PartNumbers.{number_of-zeros_below, number_of-zeros_above, number_of-take, number_of-drop}
use Rattle.bit_words.proofs.WordLaws.{MeansAll-length}
use Rattle.bit_words.proofs.ProductLaws.{MeansAll-take}
use Rattle.bit_words.proofs.ShiftSteps.{length-stage, stages-less, stages-past, is-less, is-past}

MeansAll-drop : (n : ℕ) {e : Source} {nodes : List Node} {xs : List Literal} {bs : List Bool} → MeansAll e nodes xs bs → MeansAll e nodes (drop n xs) (drop n bs)
MeansAll-drop zero ms = ms
MeansAll-drop (suc n) none = none
MeansAll-drop (suc n) (more m ms) = MeansAll-drop n ms

fills-mean : (n : ℕ) {e : Source} {nodes : List Node} {fill : Literal} {f : Bool} → Means e nodes fill f → MeansAll e nodes (replicate n fill) (replicate n f)
fills-mean zero m = none
fills-mean (suc n) m = more m (fills-mean n m)

moved-means : (direction : Direction) (places : ℕ) {e : Source} {nodes : List Node} {fill : Literal} {f : Bool} {xs : List Literal} {bs : List Bool}
    → Means e nodes fill f → MeansAll e nodes xs bs → MeansAll e nodes (moved direction fill places xs) (moved direction f places bs)
moved-means Left places {e} {nodes} {fill} {f} {xs} {bs} m ms =
    subst (λ n. MeansAll e nodes (replicate places fill ++ take (n - places) xs) (replicate places f ++ take (length bs - places) bs)) (MeansAll-length ms)
    (MeansAll-append (fills-mean places m) (MeansAll-take (length bs - places) ms))
moved-means Right places m ms = MeansAll-append (MeansAll-drop places ms) (fills-mean places m)

-- ---- numbers of moved words

map-fill : (n : ℕ) → map not (replicate n true) ≡ replicate n false
map-fill zero = refl
map-fill (suc n) = ap (λ bs. false ∷ bs) (map-fill n)

length-moved : {A : Type 0} (direction : Direction) (f : A) (places : ℕ) (bs : List A) → places ≤ length bs → length (moved direction f places bs) ≡ length bs
length-moved Left f places bs within =
    omega (arith, length-append (replicate places f) (take (length bs - places) bs), length-replicate places f, length-take (length bs - places) bs)
length-moved Right f places bs within =
    omega (arith, length-append (drop places bs) (replicate places f), length-replicate places f, length-drop places bs)

lacks : (m n p : ℕ) → m + n + 1 ≡ p → n ≡ (p - 1) - m
lacks m n p is = omega arith

opposite-number : (bs : List Bool) → number_of bs ≡ (2 ^ length bs - 1) - number_of (map not bs)
opposite-number bs = lacks (number_of (map not bs)) (number_of bs) (2 ^ length bs) (number_of-not bs)

lacks-other : (m n p : ℕ) → m + n + 1 ≡ p → m ≡ (p - 1) - n
lacks-other m n p is = omega arith

low-part : (a p h M : ℕ) → h * p ≡ M → 0 < p → 0 < h → (a % h) * p ≡ a * p % M
low-part a p h M is some_p some_h =
    sym (ap (λ n. n % M) (split (a / h) (a % h) (div-add-mod' a h)) ∙ add-mul-mod_self_right ((a % h) * p) (a / h) M
    ∙ mod-eq_of_lt (subst (λ n. (a % h) * p < n) is (mul-lt-mul_of_pos_right (mod-lt a some_h) some_p)))
  where
    spread : (q h r p : ℕ) → (q * h + r) * p ≡ r * p + q * (h * p)
    spread q h r p = omega arith

    split : (q r : ℕ) → q * h + r ≡ a → a * p ≡ r * p + q * M
    split q r whole = ap (λ n. n * p) (sym whole) ∙ spread q h r p ∙ ap (λ n. r * p + q * n) is

moved-number : (direction : Direction) (f : Bool) (places : ℕ) (bs : List Bool) → MayFill direction f → places ≤ length bs
    → number_of (moved direction f places bs) ≡ shifted_number direction f (length bs) (number_of bs) places
moved-number Left true places bs may within = absurd (true≢false may)
moved-number Left false places bs may within =
    let low = length bs - places in
    number_of-zeros_below places (take low bs)
    ∙ ap (λ m. m * 2 ^ places) (number_of-take low bs (omega arith))
    ∙ low-part (number_of bs) (2 ^ places) (2 ^ low) (2 ^ length bs) (sym (pow-add 2 low places) ∙ ap (λ m. 2 ^ m) (back places (length bs) within)) (pow_pos places) (pow_pos low)
  where
    back : (p w : ℕ) → p ≤ w → (w - p) + p ≡ w
    back p w inside = omega arith
moved-number Right false places bs may within = number_of-zeros_above places (drop places bs) ∙ number_of-drop places bs within
moved-number Right true places bs may within =
    let zs = drop places bs ++ replicate places true in
    let turned : map not zs ≡ drop places (map not bs) ++ replicate places false =
    map-append not (drop places bs) (replicate places true) ∙ ap₂ (λ p q. p ++ q) (sym (drop-map not places bs)) (map-fill places) in
    opposite-number zs
    ∙ ap₂ (λ w n. (2 ^ w - 1) - n) (length-moved Right true places bs within)
    (ap number_of turned ∙ number_of-zeros_above places (drop places (map not bs))
    ∙ number_of-drop places (map not bs) (rw (length-map bs not) within)
    ∙ ap (λ n. n / 2 ^ places) (lacks-other (number_of (map not bs)) (number_of bs) (2 ^ length bs) (number_of-not bs)))

-- ---- shifts one after another

mul-mod-low : (x y m : ℕ) → (x % m) * y % m ≡ x * y % m
mul-mod-low x y m =
    sym (ap (λ n. n * y % m) (sym (div-add-mod' x m)) ∙ ap (λ n. n % m) (spread (x / m) m (x % m) y) ∙ add-mul-mod_self_right ((x % m) * y) (x / m * y) m)
  where
    spread : (q m r y : ℕ) → (q * m + r) * y ≡ r * y + (q * y) * m
    spread q m r y = omega arith

shifted-twice : (direction : Direction) (f : Bool) (w a s t : ℕ) → MayFill direction f → a < 2 ^ w
    → shifted_number direction f w (shifted_number direction f w a s) t ≡ shifted_number direction f w a (s + t)
shifted-twice Left f w a s t may below =
    mul-mod-low (a * 2 ^ s) (2 ^ t) (2 ^ w) ∙ ap (λ n. n % 2 ^ w) (mul_assoc a (2 ^ s) (2 ^ t) ∙ ap (λ n. a * n) (sym (pow-add 2 s t)))
shifted-twice Right false w a s t may below = shr-shr a s t
shifted-twice Right true w a s t may below =
    let M = 2 ^ w - 1 in
    ap (λ n. M - n / 2 ^ t) (twice_lacks M ((M - a) / 2 ^ s) (at_most M a (2 ^ s) (shr_le (M - a) s))) ∙ ap (λ n. M - n) (shr-shr (M - a) s t)
  where
    twice_lacks : (m n : ℕ) → n ≤ m → m - (m - n) ≡ n
    twice_lacks m n inside = omega arith

    at_most : (m a p : ℕ) → (m - a) / p ≤ m - a → (m - a) / p ≤ m
    at_most m a p less = omega arith

shifted-none : (direction : Direction) (f : Bool) (w a : ℕ) → a < 2 ^ w → shifted_number direction f w a 0 ≡ a
shifted-none Left f w a below = ap (λ n. n % 2 ^ w) (one a) ∙ mod-eq_of_lt below
  where
    one : (a : ℕ) → a * 2 ^ 0 ≡ a
    one a = omega arith
shifted-none Right false w a below = one a
  where
    one : (a : ℕ) → a / 2 ^ 0 ≡ a
    one a = omega arith
shifted-none Right true w a below = ap (λ n. (2 ^ w - 1) - n) (one ((2 ^ w - 1) - a)) ∙ twice_lacks (2 ^ w) a below
  where
    one : (a : ℕ) → a / 2 ^ 0 ≡ a
    one a = omega arith

    twice_lacks : (p a : ℕ) → a < p → (p - 1) - ((p - 1) - a) ≡ a
    twice_lacks p a inside = omega arith

number_of-ones : (n : ℕ) → number_of (replicate n true) ≡ 2 ^ n - 1
number_of-ones n =
    opposite-number (replicate n true) ∙ ap₂ (λ w m. (2 ^ w - 1) - m) (length-replicate n true) (ap number_of (map-fill n) ∙ number_of-zeros n) ∙ less-none (2 ^ n - 1)
  where
    less-none : (m : ℕ) → m - 0 ≡ m
    less-none m = omega arith

shifted-past : (direction : Direction) (f : Bool) (w a s : ℕ) → MayFill direction f → a < 2 ^ w → w ≤ s
    → number_of (replicate w f) ≡ shifted_number direction f w a s
shifted-past Left true w a s may below past = absurd (true≢false may)
shifted-past Left false w a s may below past = number_of-zeros w ∙ sym (shifted_out a s w past)
shifted-past Right false w a s may below past = number_of-zeros w ∙ sym (shifted_down a s w below past)
shifted-past Right true w a s may below past =
    number_of-ones w ∙ sym (ap (λ n. (2 ^ w - 1) - n) (shifted_down ((2 ^ w - 1) - a) s w (lower (2 ^ w) a (pow_pos w)) past) ∙ less-none (2 ^ w - 1))
  where
    lower : (p a : ℕ) → 0 < p → (p - 1) - a < p
    lower p a some = omega arith

    less-none : (m : ℕ) → m - 0 ≡ m
    less-none m = omega arith

-- ---- stages

word-below : {e : Source} {nodes : List Node} {xs : List Literal} {a : ℕ} → IsWord e nodes xs a → a < 2 ^ length xs
word-below {xs = xs} x = subst (λ m. m < 2 ^ length xs) x.number (subst (λ w. number_of x.bits < 2 ^ w) (MeansAll-length x.means) (number_of-below x.bits))

word-as : {e : Source} {nodes : List Node} {w : Word} {p q : ℕ} → p ≡ q → GivesWord e nodes w p → GivesWord e nodes w q
word-as equal g = record { grown = g.grown; is = record { bits = g.is.bits; means = g.is.means; number = g.is.number ∙ equal } }

staged-number : (direction : Direction) (f k : Bool) (places : ℕ) (bs : List Bool) → MayFill direction f → places ≤ length bs
    → (if k then number_of (moved direction f places bs) else number_of bs) ≡ shifted_number direction f (length bs) (number_of bs) (places * one_if k)
staged-number direction f true places bs may within =
    moved-number direction f places bs may within ∙ ap (shifted_number direction f (length bs) (number_of bs)) (once places)
  where
    once : (n : ℕ) → n ≡ n * 1
    once n = omega arith
staged-number direction f false places bs may within =
    sym (ap (shifted_number direction f (length bs) (number_of bs)) (never places) ∙ shifted-none direction f (length bs) (number_of bs) (number_of-below bs))
  where
    never : (n : ℕ) → n * 0 ≡ 0
    never n = omega arith

stage-law : (direction : Direction) (places : ℕ) {e : Source} {nodes : List Node} {fill b : Literal} {xs : List Literal} {f k : Bool} {a : ℕ}
    → MayFill direction f → places ≤ length xs → IsWord e nodes xs a → Means e nodes fill f → Means e nodes b k
    → GivesWord e nodes (stage_made nodes direction fill places b xs) (shifted_number direction f (length xs) a (places * one_if k))
unfolding stage_made
stage-law direction places {fill = fill} {xs = xs} {f = f} {k = k} {a = a} may within x mf mb =
    let width = MeansAll-length x.means in
    let inside : places ≤ length x.bits = omega (arith, width) in
    let g = choice-means (moved direction fill places xs) xs none mb (moved-means direction places mf x.means) x.means in
    record {
      grown = g.grown;
      is = record {
        bits = chosen_bits k (moved direction f places x.bits) x.bits;
        means = g.means;
        number = chosen-number k (moved direction f places x.bits) x.bits (length-moved direction f places x.bits inside)
            ∙ staged-number direction f k places x.bits may inside
            ∙ ap₂ (λ w n. shifted_number direction f w n (places * one_if k)) width x.number;
      };
    }

past-law : (ys : List Literal) {e : Source} {nodes : List Node} {fill : Literal} {xs : List Literal} {f : Bool} {a : ℕ} {ks : List Bool}
    → IsWord e nodes xs a → Means e nodes fill f → MeansAll e nodes ys ks
    → GivesWord e nodes (past_made nodes fill ys xs) (if some_of ks then number_of (replicate (length xs) f) else a)
unfolding past_made
past-law ys {fill = fill} {xs = xs} {f = f} {ks = ks} x mf mys =
    let past = chain-or mys in
    let g = choice-means (replicate (length xs) fill) xs none past.means (fills-mean (length xs) (keep past.grown mf)) (keep_all past.grown x.means) in
    record {
      grown = grown-then past.grown g.grown;
      is = record {
        bits = chosen_bits (some_of ks) (replicate (length xs) f) x.bits;
        means = g.means;
        number = chosen-number (some_of ks) (replicate (length xs) f) x.bits (length-replicate (length xs) f ∙ sym (MeansAll-length x.means))
            ∙ ap (λ n. if some_of ks then number_of (replicate (length xs) f) else n) x.number;
      };
    }

some-number : (ks : List Bool) → ((some_of ks ≡ true) × (1 ≤ number_of ks)) ⊎ ((some_of ks ≡ false) × (number_of ks ≡ 0))
some-number [] = inr (refl, refl)
some-number (true ∷ ks) = inl (refl, omega arith)
some-number (false ∷ ks) = elim (some-number ks) [ inl p ↦ inl (p.0, omega (arith, p.1)) | inr p ↦ inr (p.0, omega (arith, p.1)) ]

past-number : (direction : Direction) (f : Bool) (w a places : ℕ) (ks : List Bool) → MayFill direction f → a < 2 ^ w → w ≤ places
    → (if some_of ks then number_of (replicate w f) else a) ≡ shifted_number direction f w a (places * number_of ks)
past-number direction f w a places ks may below past = elim (some-number ks) [
  | inl p ↦ ap (λ s. if s then number_of (replicate w f) else a) p.0
      ∙ shifted-past direction f w a (places * number_of ks) may below (far w places (number_of ks) past p.1)
  | inr p ↦ ap (λ s. if s then number_of (replicate w f) else a) p.0
      ∙ sym (ap (shifted_number direction f w a) (ap (λ n. places * n) p.1 ∙ never places) ∙ shifted-none direction f w a below)
]
  where
    far : (w p n : ℕ) → w ≤ p → 1 ≤ n → w ≤ p * n
    far w p n past some = omega (arith, mul-le-mul_left p some)

    never : (n : ℕ) → n * 0 ≡ 0
    never n = omega arith

stages-law : (ys : List Literal) (direction : Direction) (places : ℕ) {e : Source} {nodes : List Node} {fill : Literal} {xs : List Literal} {f : Bool} {a : ℕ} {ks : List Bool}
    → MayFill direction f → IsWord e nodes xs a → Means e nodes fill f → MeansAll e nodes ys ks
    → GivesWord e nodes (stages_made nodes direction fill places ys xs) (shifted_number direction f (length xs) a (places * number_of ks))
unfolding stages_made
stages-law [] direction places {xs = xs} {f = f} {a = a} may x mf none =
    word-as (sym (ap (shifted_number direction f (length xs) a) (never places) ∙ shifted-none direction f (length xs) a (word-below x))) (past-law [] x mf none)
  where
    never : (n : ℕ) → n * 0 ≡ 0
    never n = omega arith
stages-law (y ∷ ys) direction places {e} {nodes} {fill} {xs} {f} {a} may x mf (more {b = k} {bs = bs} my mys) =
    elim (cases_lt places (length xs)) [
      | inl less ↦
          (let st = stage-law direction places may (omega (arith, less)) x mf my in
          let rest = stages-law ys direction (places + places) may st.is (keep st.grown mf) (keep_all st.grown mys) in
          let width = length-stage nodes direction fill places y xs less in
          subst (λ w. GivesWord e nodes w (shifted_number direction f (length xs) a (places * (one_if k + 2 * number_of bs))))
          (sym (stages-less nodes direction fill places y ys xs (is-less places (length xs) less)))
          record {
            grown = grown-then st.grown rest.grown;
            is = record {
              bits = rest.is.bits;
              means = rest.is.means;
              number = rest.is.number
                  ∙ ap (λ w. shifted_number direction f w (shifted_number direction f (length xs) a (places * one_if k)) ((places + places) * number_of bs)) width
                  ∙ shifted-twice direction f (length xs) a (places * one_if k) ((places + places) * number_of bs) may (word-below x)
                  ∙ ap (shifted_number direction f (length xs) a) (together places (one_if k) (number_of bs));
            };
          })
      | inr past ↦
          subst (λ w. GivesWord e nodes w (shifted_number direction f (length xs) a (places * (one_if k + 2 * number_of bs))))
          (sym (stages-past nodes direction fill places y ys xs (is-past places (length xs) past)))
          (word-as (past-number direction f (length xs) a places (k ∷ bs) may (word-below x) past) (past-law (y ∷ ys) x mf (more my mys)))
    ]
  where
    together : (p k n : ℕ) → p * k + (p + p) * n ≡ p * (k + 2 * n)
    together p k n = omega arith

-- a word shifted by another is its number shifted by the other's
pub shift-law : (direction : Direction) {e : Source} {nodes : List Node} {fill : Literal} {xs ys : List Literal} {f : Bool} {a b : ℕ}
    → MayFill direction f → Means e nodes fill f → IsWord e nodes xs a → IsWord e nodes ys b
    → GivesWord e nodes (shift_made nodes direction fill xs ys) (shifted_number direction f (length xs) a b)
shift-law direction {xs = xs} {ys = ys} {f = f} {a = a} may mf x y =
    word-as (ap (shifted_number direction f (length xs) a) (once (number_of y.bits) ∙ y.number)) (stages-law ys direction 1 may x mf y.means)
  where
    once : (n : ℕ) → 1 * n ≡ n
    once n = omega arith

-- the top bit of a word says whether the number is one of the upper half
top-one : (b : Bool) → b ≡ leb (2 ^ 0) (one_if b + 2 * 0)
top-one true = refl
top-one false = refl

top-more : (b n p : ℕ) → b ≤ 1 → leb p n ≡ leb (2 * p) (b + 2 * n)
top-more b n p low = grind (arith, common_steps)

pub top-law : {e : Source} {nodes : List Node} (i : ℕ) {xs : List Literal} {bs : List Bool} → MeansAll e nodes xs bs → i + 1 ≡ length xs
    → Means e nodes (get_or xs i (Known false)) (leb (2 ^ i) (number_of bs))
top-law i none last = absurd (omega (arith, last))
top-law zero (more {b = b} m none) last = means-as (top-one b) m
top-law (suc i) (more m none) last = absurd (omega (arith, last))
top-law zero (more m (more n ms)) last = absurd (omega (arith, last))
top-law (suc i) (more {b = b} m (more {b = c} {bs = cs} n ms)) last =
    means-as (top-more (one_if b) (number_of (c ∷ cs)) (2 ^ i) (one_if-below b) ∙ ap (λ p. leb p (one_if b + 2 * number_of (c ∷ cs))) (sym (double i)))
    (top-law i (more n ms) (omega (arith, last)))

pub top-word : {e : Source} {nodes : List Node} {xs : List Literal} {a : ℕ} → IsWord e nodes xs a → 1 ≤ length xs
    → Means e nodes (get_or xs (length xs - 1) (Known false)) (is_negative (length xs) a)
top-word {xs = xs} x some =
    means-as (ap (λ n. leb (2 ^ (length xs - 1)) n) x.number) (top-law (length xs - 1) x.means (last (length xs) some))
  where
    last : (n : ℕ) → 1 ≤ n → (n - 1) + 1 ≡ n
    last n some = omega arith
