-- Lines that are printed one after another.
use Rattle.std.proofs.Common.{ℕ, ◌+◌, ◌≡◌, ◌<◌, ◌≤◌, List, [], ◌∷◌, ◌++◌, length, take, ap, sym, refl, ◌∙◌, arith, ◌⊎◌, inl, inr, Result, Ok, Err}
use Rattle.std.proofs.Math.Seq.{take-append-add, take-length}
use Rattle.std.proofs.lemmas.Bool.{cases_lt}
use Rattle.std.proofs.lemmas.Grind.{flat_map-append}
use Rattle.std.proofs.lemmas.List.{append_assoc, take-append-le, take_all}
use Rattle.io_ports.specs.Sink.{SinkAppends}
use Rattle.io_ports.specs.declared.errors.SinkFault.{SinkFault}
use Rattle.io_ports.specs.declared.errors.SinkFault.TheVariants.{Failed, NoMemory}
use Rattle.sim_lines.specs.Lines.{Line, line_text, text_of}
use Rattle.sim_lines.specs.Shows.{Shows}

append-none : {X : Type 0} (xs : List X) → xs ++ [] ≡ xs
append-none [] = refl
append-none (x ∷ xs) = ap (λ zs. x ∷ zs) (append-none xs)

one-text : (line : Line) → text_of (line ∷ []) ≡ line_text line
one-text line = append-none (line_text line)

-- a front of a list is one of a longer list
pub record FrontOf {X : Type 0} (front xs : List X) : Type 0 where
  pub count : ℕ
  pub is : front ≡ take count xs

front-longer : {X : Type 0} (count : ℕ) (xs ys : List X) → FrontOf (take count xs) (xs ++ ys)
front-longer count xs ys = by_length (cases_lt (length xs) count)
  where
    by_length : (length xs < count) ⊎ (count ≤ length xs) → FrontOf (take count xs) (xs ++ ys)
    by_length (inl more) = record {
      count = length xs;
      is = take_all count xs (omega (arith, more)) ∙ sym (take-append-le (length xs) xs ys (omega arith) ∙ take-length xs);
    }
    by_length (inr few) = record { count = count; is = sym (take-append-le count xs ys few) }

-- a line that is put
pub shows-one : (X : Type 0) (line : Line) (old new : List ℕ) (r : Result X SinkFault) → SinkAppends (line_text line) old new r → Shows (line ∷ []) old new r
shows-one X line old new (Ok x) is = is ∙ ap (λ t. old ++ t) (sym (one-text line))
shows-one X line old new (Err (Failed kind)) is = record { count = is.count; is = is.is ∙ ap (λ t. old ++ take is.count t) (sym (one-text line)) }
shows-one X line old new (Err NoMemory) is = record { count = 0; is = is ∙ sym (append-none old) }

-- what stops the first lines stops all of them
pub shows-stopped : (X Y : Type 0) (lines more : List Line) (old new : List ℕ) (e : SinkFault) → Shows {X = X} lines old new (Err e) → Shows {X = Y} (lines ++ more) old new (Err e)
shows-stopped X Y lines more old new (Failed kind) is =
    let front = front-longer is.count (text_of lines) (text_of more) in
    record {
      count = front.count;
      is = is.is ∙ ap (λ t. old ++ t) front.is ∙ ap (λ t. old ++ take front.count t) (sym (flat_map-append line_text lines more));
    }
shows-stopped X Y lines more old new NoMemory is =
    let front = front-longer is.count lines more in
    record { count = front.count; is = is.is ∙ ap (λ ls. old ++ text_of ls) front.is }

-- lines behind those that were printed
pub shows-then : (X : Type 0) (lines more : List Line) (old now new : List ℕ) (r : Result X SinkFault) → now ≡ old ++ text_of lines → Shows more now new r
    → Shows (lines ++ more) old new r
shows-then X lines more old now new (Ok x) before is =
    is ∙ ap (λ t. t ++ text_of more) before ∙ append_assoc old (text_of lines) (text_of more) ∙ ap (λ t. old ++ t) (sym (flat_map-append line_text lines more))
shows-then X lines more old now new (Err (Failed kind)) before is = record {
  count = length (text_of lines) + is.count;
  is = is.is ∙ ap (λ t. t ++ take is.count (text_of more)) before ∙ append_assoc old (text_of lines) (take is.count (text_of more))
      ∙ ap (λ t. old ++ t) (sym (take-append-add (text_of lines) (text_of more) is.count))
      ∙ ap (λ t. old ++ take (length (text_of lines) + is.count) t) (sym (flat_map-append line_text lines more));
}
shows-then X lines more old now new (Err NoMemory) before is = record {
  count = length lines + is.count;
  is = is.is ∙ ap (λ t. t ++ text_of (take is.count more)) before ∙ append_assoc old (text_of lines) (text_of (take is.count more))
      ∙ ap (λ t. old ++ t) (sym (flat_map-append line_text lines (take is.count more)))
      ∙ ap (λ ls. old ++ text_of ls) (sym (take-append-add lines more is.count));
}

-- no line
pub shows-none : (old : List ℕ) → old ≡ old ++ text_of []
shows-none old = sym (append-none old)

-- one line more
pub text-next : (lines : List Line) (line : Line) (old now new : List ℕ) → now ≡ old ++ text_of lines → new ≡ now ++ line_text line → new ≡ old ++ text_of (lines ++ line ∷ [])
text-next lines line old now new before is =
    is ∙ ap (λ t. t ++ line_text line) before ∙ append_assoc old (text_of lines) (line_text line)
    ∙ ap (λ t. old ++ (text_of lines ++ t)) (sym (one-text line)) ∙ ap (λ t. old ++ t) (sym (flat_map-append line_text lines (line ∷ [])))
