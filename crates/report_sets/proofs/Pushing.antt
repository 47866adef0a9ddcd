-- Words that are appended, row by row.
use Rattle.std.proofs.Common.{◌≡◌, ◌≢◌, ℕ, zero, suc, ◌+◌, ◌<◌, ◌≤◌, List, [], ◌∷◌, ◌++◌, length, get_or, map, take, Some, sym, ap, ap₂, ◌∙◌, subst, arith, append_assoc, append-nil, length-append}
use Rattle.std.specs.Prelude.{All, Bool, MatchBool, false, slice_get, true}
use Rattle.std.specs.List.{flat_map}
use Rattle.std.proofs.lemmas.List.{length-map, map_push, take_all, take_more}
use Rattle.std.proofs.lemmas.List.Concat.{flat_map-append}
use Rattle.std.proofs.lemmas.List.Elements.{All-append, All-cons, All-get_or, All-nil}
use Rattle.loc_base.proofs.ShelfLists.{slice_get-some}
use Rattle.loc_base.specs.declared.bits.Bits.{Bits}
use Rattle.loc_base.specs.Bits.{width_of}
use Rattle.report_sets.specs.Found.{word_text}
use Rattle.report_sets.specs.Reading.{AllHaveWords, AppendsRow, AppendsRows, HasWords, all_rows}

-- ---- a row
-- a word more
pushed : {X : Type 0} (f : Bits → X) (old before after : List Bits) (row : List X) (place : ℕ) (word : Bits) (d : X) → place < length row
    → f word ≡ get_or row place d → map f before ≡ map f old ++ take place row → after ≡ before ++ word ∷ []
    → map f after ≡ map f old ++ take (place + 1) row
pushed {X = X} f old before after row place word d within is begun grown =
    ap (map f) grown ∙ map_push f before word
    ∙ ap₂ (λ front (last : X). front ++ last ∷ []) begun is
    ∙ append_assoc (map f old) (take place row) (get_or row place d ∷ [])
    ∙ ap (λ rest. map f old ++ rest) (sym (take_more row place d within))

pub row-begun : (widths : List ℕ) (row : List (List ℕ)) (old : List Bits) → AppendsRow (take 0 widths) (take 0 row) old old
row-begun widths row old = record { widths_are = sym (append-nil (map width_of old)); texts_are = sym (append-nil (map word_text old)) }

pub row-more : (widths : List ℕ) (row : List (List ℕ)) (old before after : List Bits) (place : ℕ) (word : Bits)
    → length row ≡ length widths → place < length widths → AppendsRow (take place widths) (take place row) old before
    → width_of word ≡ get_or widths place 0 → word_text word ≡ get_or row place [] → after ≡ before ++ word ∷ []
    → AppendsRow (take (place + 1) widths) (take (place + 1) row) old after
row-more widths row old before after place word even within begun wide text grown = record {
  widths_are = pushed width_of old before after widths place word 0 within wide begun.widths_are grown;
  texts_are = pushed word_text old before after row place word [] (omega (arith, even, within)) text begun.texts_are grown;
}

pub row-whole : (widths : List ℕ) (row : List (List ℕ)) (old new : List Bits) (place : ℕ) → length row ≡ length widths
    → length widths ≤ place → AppendsRow (take place widths) (take place row) old new → AppendsRow widths row old new
row-whole widths row old new place even past begun =
    subst (λ ws. AppendsRow ws row old new) (take_all place widths past)
    (subst (λ r. AppendsRow (take place widths) r old new) (take_all place row (omega (arith, even, past))) begun)

map-at : {X Y : Type 0} (f : X → Y) (xs : List X) (i : ℕ) (x : X) (d : Y) → slice_get xs i ≡ Some x → get_or (map f xs) i d ≡ f x
map-at f [] i x d there = cc
map-at f (y ∷ xs) zero x d there = ap f (inner there)
  where
    inner : Some y ≡ Some x → y ≡ x
    inner same = cc
map-at f (y ∷ xs) (suc i) x d there = map-at f xs i x d there

-- a text that is of no word of its width
pub row-none : (widths : List ℕ) (row : List (List ℕ)) (place : ℕ) → place < length widths
    → ((word : Bits) → width_of word ≡ get_or widths place 0 → word_text word ≢ get_or row place []) → ¬ HasWords widths row
row-none widths row place within none (words, wide, texts) =
    let long : length words ≡ length widths = sym (length-map words width_of) ∙ ap length wide in
    let (word, there) = slice_get-some words place (omega (arith, long, within)) in
    none word (sym (map-at width_of words place word 0 there) ∙ ap (λ ws. get_or ws place 0) wide)
    (sym (map-at word_text words place word [] there) ∙ ap (λ ts. get_or ts place []) texts)

pub row-uneven : (widths : List ℕ) (row : List (List ℕ)) → length row ≢ length widths → ¬ HasWords widths row
row-uneven widths row other (words, wide, texts) =
    other (ap length (sym texts) ∙ length-map words word_text ∙ (sym (length-map words width_of) ∙ ap length wide))

-- ---- rows
row-even : (widths : List ℕ) (row : List (List ℕ)) (old new : List Bits) → AppendsRow widths row old new → length row ≡ length widths
row-even widths row old new is = omega (
  arith,
  ap length is.widths_are,
  ap length is.texts_are,
  length-map old width_of,
  length-map new width_of,
  length-map old word_text,
  length-map new word_text,
  length-append (map width_of old) widths,
  length-append (map word_text old) row,
)

pub rows-begun : (widths : List ℕ) (old : List Bits) → AppendsRows widths [] old old
rows-begun widths old = record {
  even = All-nil (λ row. length row ≡ length widths);
  widths_are = sym (append-nil (map width_of old));
  texts_are = sym (append-nil (map word_text old));
}

-- rows behind rows
pub rows-both : (widths : List ℕ) (front behind : List (List (List ℕ))) (old mid new : List Bits) → AppendsRows widths front old mid
    → AppendsRows widths behind mid new → AppendsRows widths (front ++ behind) old new
rows-both widths front behind old mid new first then = record {
  even = All-append (λ row. length row ≡ length widths) front behind first.even then.even;
  widths_are = joined (map width_of old) (map width_of mid) (map width_of new) (λ (row : List (List ℕ)). widths) first.widths_are then.widths_are;
  texts_are = joined (map word_text old) (map word_text mid) (map word_text new) (λ (row : List (List ℕ)). row) first.texts_are then.texts_are;
}
  where
    joined : {X : Type 0} (a b c : List X) (f : List (List ℕ) → List X) → b ≡ a ++ flat_map f front → c ≡ b ++ flat_map f behind
        → c ≡ a ++ flat_map f (front ++ behind)
    joined a b c f one other =
        other ∙ ap (λ xs. xs ++ flat_map f behind) one ∙ append_assoc a (flat_map f front) (flat_map f behind)
        ∙ ap (λ xs. a ++ xs) (sym (flat_map-append f front behind))

one-row : (widths : List ℕ) (row : List (List ℕ)) (old new : List Bits) → AppendsRow widths row old new → AppendsRows widths (row ∷ []) old new
one-row widths row old new is = record {
  even = All-cons (λ r. length r ≡ length widths) row [] (row-even widths row old new is) (All-nil (λ r. length r ≡ length widths));
  widths_are = is.widths_are ∙ ap (λ ws. map width_of old ++ ws) (sym (append-nil widths));
  texts_are = is.texts_are ∙ ap (λ ts. map word_text old ++ ts) (sym (append-nil row));
}

pub rows-more : (widths : List ℕ) (rows : List (List (List ℕ))) (cycle : ℕ) (old before after : List Bits) → cycle < length rows
    → AppendsRows widths (take cycle rows) old before → AppendsRow widths (get_or rows cycle []) before after
    → AppendsRows widths (take (cycle + 1) rows) old after
rows-more widths rows cycle old before after within begun row =
    subst (λ rs. AppendsRows widths rs old after) (sym (take_more rows cycle [] within))
    (rows-both widths (take cycle rows) (get_or rows cycle [] ∷ []) old before after begun
    (one-row widths (get_or rows cycle []) before after row))

pub rows-whole : (widths : List ℕ) (rows : List (List (List ℕ))) (cycle : ℕ) (old new : List Bits) → length rows ≤ cycle
    → AppendsRows widths (take cycle rows) old new → AppendsRows widths rows old new
rows-whole widths rows cycle old new past begun = subst (λ rs. AppendsRows widths rs old new) (take_all cycle rows past) begun

pub rows-none : (widths : List ℕ) (rows : List (List (List ℕ))) (cycle : ℕ) → cycle < length rows → ¬ HasWords widths (get_or rows cycle [])
    → ¬ All (HasWords widths) rows
rows-none widths rows cycle within none all = none (All-get_or (HasWords widths) rows cycle [] within all)

-- ---- all traces
pub all-begun : (widths : List ℕ) (values : List (List (List (List ℕ)))) (old : List Bits) → AppendsRows widths (all_rows (take 0 values)) old old
all-begun widths values old = rows-begun widths old

single : (rows : List (List (List ℕ))) → all_rows (rows ∷ []) ≡ rows
single rows = append-nil rows

pub all-more : (widths : List ℕ) (values : List (List (List (List ℕ)))) (at : ℕ) (rows : List (List (List ℕ))) (old before after : List Bits)
    → at < length values → rows ≡ get_or values at rows → AppendsRows widths (all_rows (take at values)) old before
    → AppendsRows widths rows before after → AppendsRows widths (all_rows (take (at + 1) values)) old after
all-more widths values at rows old before after within is begun then =
    subst (λ rs. AppendsRows widths rs old after) (sym grown)
    (rows-both widths (all_rows (take at values)) rows old before after begun then)
  where
    grown : all_rows (take (at + 1) values) ≡ all_rows (take at values) ++ rows
    grown =
        ap all_rows (take_more values at rows within ∙ ap (λ last. take at values ++ last ∷ []) (sym is))
        ∙ flat_map-append (λ (rs : List (List (List ℕ))). rs) (take at values) (rows ∷ [])
        ∙ ap (λ rs. all_rows (take at values) ++ rs) (single rows)

pub all-whole : (widths : List ℕ) (values : List (List (List (List ℕ)))) (at : ℕ) (old new : List Bits) → length values ≤ at
    → AppendsRows widths (all_rows (take at values)) old new → AppendsRows widths (all_rows values) old new
all-whole widths values at old new past begun =
    subst (λ vs. AppendsRows widths (all_rows vs) old new) (take_all at values past) begun

pub all-none : (widths : List ℕ) (values : List (List (List (List ℕ)))) (at : ℕ) (rows : List (List (List ℕ))) → at < length values
    → rows ≡ get_or values at rows → ¬ All (HasWords widths) rows → ¬ AllHaveWords widths values
all-none widths values at rows within is none all =
    none (subst (All (HasWords widths)) (sym is) (All-get_or (All (HasWords widths)) values at rows within all))

pub ruleset rows_rules = (rows-begun, rows-more, rows-whole, rows-none)

pub ruleset all_rules = (all-begun, all-more, all-whole, all-none)

pub ruleset row_rules = (row-begun, row-more, row-whole, row-none, row-uneven)

-- ---- what a test tells
pub read-true : (b : Bool) (P Q : Type 0) → b ≡ true → MatchBool b P Q → P
read-true true P Q is m = m
read-true false P Q is m = cc

pub read-false : (b : Bool) (P Q : Type 0) → b ≡ false → MatchBool b P Q → Q
read-false false P Q is m = m
read-false true P Q is m = cc
