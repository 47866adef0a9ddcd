-- What single writes leave, and what writes behind others leave.
use Rattle.std.proofs.Common.{ℕ, zero, suc, ◌≡◌, ◌≢◌, ◌+◌, ◌<◌, ◌≤◌, List, [], ◌∷◌, ◌++◌, length, take, Bool, true, false, ap, refl, sym, ◌∙◌, subst, arith}
use Rattle.std.proofs.Common.{◌⊎◌, inl, inr, Option, Some, None, unwrap_or, append_assoc}
use Rattle.std.specs.Prelude.{Result, Ok, Err, slice_get, if◌then◌else◌, IsSome, IsSomeAnd}
use Rattle.std.specs.List.{flat_map}
use Rattle.std.specs.Str.{bytes_eq}
use Rattle.std.specs.Cmp.Lexicographic.{bytes_decides}
use Rattle.std.proofs.lemmas.Bool.{false_from_ne_true}
use Rattle.std.proofs.lemmas.List.{append-nil, length-append}
use Rattle.std.proofs.lemmas.Grind.{flat_map-append}
use Rattle.std.proofs.lemmas.Option.{slice_get_within}
use Rattle.std.proofs.Math.Seq.{take-append-add}
use Rattle.io_ports.specs.Shelf.{AppendsFront}
use Rattle.write_order.specs.declared.write.WriteErr.{WriteErr}
use Rattle.write_order.specs.declared.write.WriteErr.TheVariants.{Failed, NoMemory}
use Rattle.write_order.specs.Writes.{AreBegun, AreDone, IsPartOf, Leaves, Outputs, StopsIn, Write, begin_text, on_shelf, on_sink, print_piece, printed_by, put_piece, text_after, text_behind}

-- ---- by a name
abbrev Texts : Type 0
Texts = List ℕ → Option (List ℕ)

-- what stands under a name, and under the others as before
changed : (name : List ℕ) (old new : Texts) (text : Option (List ℕ)) → new name ≡ text
    → ((other : List ℕ) → other ≢ name → new other ≡ old other)
    → (q : List ℕ) → new q ≡ (if bytes_eq q name then text else old q)
changed name old new text here others q = at (bytes_eq q name) refl
  where
    at : (b : Bool) → bytes_eq q name ≡ b → new q ≡ (if b then text else old q)
    at true e = ap new ((bytes_decides q name).0 e) ∙ here
    at false e = others q (λ same. differ (sym ((bytes_decides q name).1 same) ∙ e))
      where
        differ : true ≡ false → ⊥
        differ e = cc

-- and where that is read off the old texts
put-changed : (name piece : List ℕ) (old new : Texts) → new name ≡ Some (unwrap_or (old name) [] ++ piece)
    → ((other : List ℕ) → other ≢ name → new other ≡ old other)
    → (q : List ℕ) → new q ≡ text_after q (put_piece name piece) (old q)
put-changed name piece old new here others q = at (bytes_eq q name) refl
  where
    differ : true ≡ false → ⊥
    differ e = cc

    at : (b : Bool) → bytes_eq q name ≡ b → new q ≡ (if b then Some (unwrap_or (old q) [] ++ piece) else old q)
    at true e = subst (λ n. new n ≡ Some (unwrap_or (old n) [] ++ piece)) (sym ((bytes_decides q name).0 e)) here
    at false e = others q (λ same. differ (sym ((bytes_decides q name).1 same) ∙ e))

same-texts : (name : List ℕ) (old new : Texts) → new name ≡ old name → ((other : List ℕ) → other ≢ name → new other ≡ old other)
    → (q : List ℕ) → new q ≡ old q
same-texts name old new here others q = at (bytes_eq q name) refl
  where
    differ : true ≡ false → ⊥
    differ e = cc

    at : (b : Bool) → bytes_eq q name ≡ b → new q ≡ old q
    at true e = subst (λ n. new n ≡ old n) (sym ((bytes_decides q name).0 e)) here
    at false e = others q (λ same. differ (sym ((bytes_decides q name).1 same) ∙ e))

-- ---- one write
pub none-done : (old new : Texts) (printed : List ℕ) → ((q : List ℕ) → new q ≡ old q) → AreDone [] (on_shelf old new printed)
none-done old new printed same = record { texts = same; printed = sym (append-nil printed) }

pub begin-done : (name : List ℕ) (old new : Texts) (printed : List ℕ) → new name ≡ Some []
    → ((other : List ℕ) → other ≢ name → new other ≡ old other) → AreDone (begin_text name ∷ []) (on_shelf old new printed)
begin-done name old new printed here others =
    record { texts = changed name old new (Some []) here others; printed = sym (append-nil printed) }

pub put-done : (name piece : List ℕ) (old new : Texts) (printed : List ℕ)
    → new name ≡ Some (unwrap_or (old name) [] ++ piece)
    → ((other : List ℕ) → other ≢ name → new other ≡ old other) → AreDone (put_piece name piece ∷ []) (on_shelf old new printed)
put-done name piece old new printed here others =
    record { texts = put-changed name piece old new here others; printed = sym (append-nil printed) }

pub print-done : (piece : List ℕ) (written : Texts) (old new : List ℕ) → new ≡ old ++ piece
    → AreDone (print_piece piece ∷ []) (on_sink written old new)
print-done piece written old new is =
    record { texts = λ q. refl; printed = is ∙ ap (λ t. old ++ t) (sym (append-nil piece)) }

-- one write that failed
only-fails : (write : Write) (part : List Write) (o : Outputs) → IsPartOf write part → AreDone part o → StopsIn (write ∷ []) o
only-fails write part o is_part done =
    record { count = 0; failed = write; at = refl; part = part; is_part = is_part; done = done }

pub begin-stops : (name : List ℕ) (old new : Texts) (printed : List ℕ) → (new name ≡ old name) ⊎ (new name ≡ Some [])
    → ((other : List ℕ) → other ≢ name → new other ≡ old other) → StopsIn (begin_text name ∷ []) (on_shelf old new printed)
begin-stops name old new printed (inl same) others =
    only-fails (begin_text name) [] (on_shelf old new printed) (inl refl)
    (none-done old new printed (same-texts name old new same others))
begin-stops name old new printed (inr empty) others =
    only-fails (begin_text name) (begin_text name ∷ []) (on_shelf old new printed) (inr refl)
    (begin-done name old new printed empty others)

-- a text that was begun, and grew by a front of a piece
grown : (piece : List ℕ) (was is : Option (List ℕ)) → IsSomeAnd is (AppendsFront piece (unwrap_or was []))
    → (count : ℕ) × (is ≡ Some (unwrap_or was [] ++ take count piece))
grown piece was (Some text) front = (front.count, ap Some front.is)
grown piece was None front = absurd front

pub put-stops : (name piece : List ℕ) (old new : Texts) (printed : List ℕ)
    → IsSomeAnd (new name) (AppendsFront piece (unwrap_or (old name) []))
    → ((other : List ℕ) → other ≢ name → new other ≡ old other) → StopsIn (put_piece name piece ∷ []) (on_shelf old new printed)
put-stops name piece old new printed front others =
    let (count, is) = grown piece (old name) (new name) front in
    only-fails (put_piece name piece) (put_piece name (take count piece) ∷ []) (on_shelf old new printed) (count, refl)
    (put-done name (take count piece) old new printed is others)

pub print-stops : (piece : List ℕ) (written : Texts) (old new : List ℕ) → AppendsFront piece old new
    → StopsIn (print_piece piece ∷ []) (on_sink written old new)
print-stops piece written old new front =
    only-fails (print_piece piece) (print_piece (take front.count piece) ∷ []) (on_sink written old new) (front.count, refl)
    (print-done (take front.count piece) written old new front.is)

-- one write for which there was no memory
none-begun : (write : Write) (name : List ℕ) (old new : Texts) (printed : List ℕ) → new name ≡ old name
    → ((other : List ℕ) → other ≢ name → new other ≡ old other) → AreBegun (write ∷ []) (on_shelf old new printed)
none-begun write name old new printed here others =
    record { count = 0; within = omega (arith); done = none-done old new printed (same-texts name old new here others) }

pub begin-none : (name : List ℕ) (old new : Texts) (printed : List ℕ) → new name ≡ old name
    → ((other : List ℕ) → other ≢ name → new other ≡ old other) → AreBegun (begin_text name ∷ []) (on_shelf old new printed)
begin-none name old new printed here others = none-begun (begin_text name) name old new printed here others

pub put-none : (name piece : List ℕ) (old new : Texts) (printed : List ℕ) → new name ≡ old name
    → ((other : List ℕ) → other ≢ name → new other ≡ old other) → AreBegun (put_piece name piece ∷ []) (on_shelf old new printed)
put-none name piece old new printed here others = none-begun (put_piece name piece) name old new printed here others

pub none-printed : (write : Write) (written : Texts) (old new : List ℕ) → new ≡ old → AreBegun (write ∷ []) (on_sink written old new)
none-printed write written old new same = record {
  count = 0;
  within = omega (arith);
  done = record { texts = λ q. refl; printed = same ∙ sym (append-nil old) };
}

pub ruleset one_write = (begin-done, put-done, print-done, begin-stops, put-stops, print-stops, begin-none, put-none, none-printed)

-- ---- writes behind writes
pub text_behind-append : (name : List ℕ) (first next : List Write) (text : Option (List ℕ))
    → text_behind name (first ++ next) text ≡ text_behind name next (text_behind name first text)
text_behind-append name [] next text = refl
text_behind-append name (write ∷ first) next text = text_behind-append name first next (text_after name write text)

-- two stretches of time, one behind the other
abbrev pub over : Texts → Texts → List ℕ → List ℕ → Outputs
over was is printed now_printed = record { written = was; now_written = is; printed = printed; now_printed = now_printed }

pub done-then : (first next : List Write) (was mid is : Texts) (printed mid_printed now_printed : List ℕ)
    → AreDone first (over was mid printed mid_printed) → AreDone next (over mid is mid_printed now_printed)
    → AreDone (first ++ next) (over was is printed now_printed)
done-then first next was mid is printed mid_printed now_printed before behind = record {
  texts = λ name. behind.texts name ∙ ap (text_behind name next) (before.texts name) ∙ sym (text_behind-append name first next (was name));
  printed = behind.printed ∙ ap (λ t. t ++ flat_map printed_by next) before.printed
      ∙ append_assoc printed (flat_map printed_by first) (flat_map printed_by next)
      ∙ ap (λ t. printed ++ t) (sym (flat_map-append printed_by first next));
}

slice_get-behind : {A : Type 0} (first next : List A) (n : ℕ) → slice_get (first ++ next) (length first + n) ≡ slice_get next n
slice_get-behind [] next n = ap (slice_get next) (omega (arith))
slice_get-behind (x ∷ first) next n = ap (slice_get (x ∷ (first ++ next))) (on-one (length first) n) ∙ slice_get-behind first next n
  where
    on-one : (a b : ℕ) → suc a + b ≡ suc (a + b)
    on-one a b = omega (arith)

slice_get-before : {A : Type 0} (first next : List A) (n : ℕ) (x : A) → slice_get first n ≡ Some x → slice_get (first ++ next) n ≡ Some x
slice_get-before [] next n x e = absurd (cc)
slice_get-before (y ∷ first) next zero x e = e
slice_get-before (y ∷ first) next (suc n) x e = slice_get-before first next n x e

take-before : {A : Type 0} (first next : List A) (n : ℕ) → n ≤ length first → take n (first ++ next) ≡ take n first
take-before first next zero h = refl
take-before [] next (suc n) h = absurd (omega (arith, h))
take-before (x ∷ first) next (suc n) h = ap (λ l. x ∷ l) (take-before first next n (omega (arith, h)))

pub stops-then : (first next : List Write) (was mid is : Texts) (printed mid_printed now_printed : List ℕ)
    → AreDone first (over was mid printed mid_printed) → StopsIn next (over mid is mid_printed now_printed)
    → StopsIn (first ++ next) (over was is printed now_printed)
stops-then first next was mid is printed mid_printed now_printed before stop = record {
  count = length first + stop.count;
  failed = stop.failed;
  at = slice_get-behind first next stop.count ∙ stop.at;
  part = stop.part;
  is_part = stop.is_part;
  done = subst (λ (ws : List Write). AreDone ws (over was is printed now_printed))
      (sym (append_assoc first (take stop.count next) stop.part) ∙ ap (λ (ws : List Write). ws ++ stop.part) (sym (take-append-add first next stop.count)))
      (done-then first (take stop.count next ++ stop.part) was mid is printed mid_printed now_printed before stop.done);
}

pub begun-then : (first next : List Write) (was mid is : Texts) (printed mid_printed now_printed : List ℕ)
    → AreDone first (over was mid printed mid_printed) → AreBegun next (over mid is mid_printed now_printed)
    → AreBegun (first ++ next) (over was is printed now_printed)
begun-then first next was mid is printed mid_printed now_printed before begun = record {
  count = length first + begun.count;
  within = omega (arith, begun.within, length-append first next);
  done = subst (λ (ws : List Write). AreDone ws (over was is printed now_printed)) (sym (take-append-add first next begun.count))
      (done-then first (take begun.count next) was mid is printed mid_printed now_printed before begun.done);
}

-- more writes were carried out, or not, behind those that were
pub leaves-then : {X : Type 0} (first next : List Write) (was mid is : Texts) (printed mid_printed now_printed : List ℕ) (result : Result X WriteErr)
    → AreDone first (over was mid printed mid_printed) → Leaves next (over mid is mid_printed now_printed) result
    → Leaves (first ++ next) (over was is printed now_printed) result
leaves-then first next was mid is printed mid_printed now_printed (Ok x) before behind =
    done-then first next was mid is printed mid_printed now_printed before behind
leaves-then first next was mid is printed mid_printed now_printed (Err Failed) before behind =
    stops-then first next was mid is printed mid_printed now_printed before behind
leaves-then first next was mid is printed mid_printed now_printed (Err NoMemory) before behind =
    begun-then first next was mid is printed mid_printed now_printed before behind

-- where the first of some writes failed, more of them were due
pub stops-within : (first next : List Write) (o : Outputs) → StopsIn first o → StopsIn (first ++ next) o
stops-within first next o stop = record {
  count = stop.count;
  failed = stop.failed;
  at = slice_get-before first next stop.count stop.failed stop.at;
  part = stop.part;
  is_part = stop.is_part;
  done = subst (λ (ws : List Write). AreDone (ws ++ stop.part) o)
      (sym (take-before first next stop.count (omega (arith, slice_get_within first stop.count stop.failed stop.at)))) stop.done;
}

pub begun-within : (first next : List Write) (o : Outputs) → AreBegun first o → AreBegun (first ++ next) o
begun-within first next o begun = record {
  count = begun.count;
  within = omega (arith, begun.within, length-append first next);
  done = subst (λ (ws : List Write). AreDone ws o) (sym (take-before first next begun.count (omega (arith, begun.within)))) begun.done;
}
