-- What stands beside the checkpoints: writes under other names leave there what they leave, and under the checkpoints' names nothing.
use Rattle.std.proofs.Common.{◌≡◌, inl, inr, ℕ, zero, suc, Bool, true, false, cond, List, [], ◌∷◌, ◌++◌, take}
use Rattle.std.proofs.Common.{Option, Some, None, Result, Ok, Err, refl, ap, sym, ◌∙◌, subst}
use Rattle.std.specs.Prelude.{slice_get}
use Rattle.std.specs.Str.{bytes_eq}
use Rattle.std.specs.Cmp.Lexicographic.{bytes_decides}
use Rattle.write_order.specs.Writes.{AreBegun, AreDone, IsPartOf, Leaves, Outputs, StopsIn, Write}
use Rattle.write_order.specs.Writes.{begin_text, print_piece, put_piece, text_after, text_behind}
use Rattle.write_order.specs.declared.write.WriteErr.{WriteErr}
use Rattle.write_order.specs.declared.write.WriteErr.TheVariants as write
use Rattle.list_writer.specs.CheckpointNames.{beside, is_checkpoint, is_name}
use Rattle.list_writer.specs.Going.{outputs}

abbrev Texts : Type 0
Texts = List ℕ → Option (List ℕ)

-- ---- which names writes have
abbrev pub HasName : (List ℕ → Type 0) → Write → Type 0
HasName P (begin_text name) = P name
HasName P (put_piece name piece) = P name
HasName P (print_piece piece) = Unit {0}

abbrev pub HaveNames : (List ℕ → Type 0) → List Write → Type 0
HaveNames P [] = Unit {0}
HaveNames P (write ∷ writes) = HasName P write × HaveNames P writes

module _ (P : List ℕ → Type 0) where
  pub names-append : (one next : List Write) → HaveNames P one → HaveNames P next → HaveNames P (one ++ next)
  names-append [] next first then = then
  names-append (w ∷ one) next first then = (first.0, names-append one next first.1 then)

  pub names-take : (n : ℕ) (writes : List Write) → HaveNames P writes → HaveNames P (take n writes)
  names-take zero writes have = tt
  names-take (suc n) [] have = tt
  names-take (suc n) (w ∷ writes) have = (have.0, names-take n writes have.1)

  pub name-at : (writes : List Write) (n : ℕ) (w : Write) → slice_get writes n ≡ Some w → HaveNames P writes → HasName P w
  name-at [] n w at have = absurd (cc)
  name-at (v ∷ writes) zero w at have = subst (HasName P) (cc) have.0
  name-at (v ∷ writes) (suc n) w at have = name-at writes n w at have.1

  pub names-part : (w : Write) (part : List Write) → IsPartOf w part → HasName P w → HaveNames P part
  names-part (begin_text name) part (inl none) has = subst (HaveNames P) (sym none) tt
  names-part (begin_text name) part (inr all) has = subst (HaveNames P) (sym all) (has, tt)
  names-part (put_piece name piece) part (count, is) has = subst (HaveNames P) (sym is) (has, tt)
  names-part (print_piece piece) part (count, is) has = subst (HaveNames P) (sym is) (tt, tt)

  -- what is done of writes that fail
  pub names-failed : (writes : List Write) (o : Outputs) (stop : StopsIn writes o) → HaveNames P writes
      → HaveNames P (take stop.count writes ++ stop.part)
  names-failed writes o stop have =
      names-append (take stop.count writes) stop.part (names-take stop.count writes have)
      (names-part stop.failed stop.part stop.is_part (name-at writes stop.count stop.failed stop.at have))

  -- a text under a name that none of them has stays
  module _ (name : List ℕ) (apart : (named : List ℕ) → P named → bytes_eq name named ≡ false) where
    stays-at : (b : Bool) (new text : Option (List ℕ)) → b ≡ false → cond b new text ≡ text
    stays-at true new text e = absurd (cc)
    stays-at false new text e = refl

    one-stays : (w : Write) (text : Option (List ℕ)) → HasName P w → text_after name w text ≡ text
    one-stays (begin_text named) text has = stays-at (bytes_eq name named) _ text (apart named has)
    one-stays (put_piece named piece) text has = stays-at (bytes_eq name named) _ text (apart named has)
    one-stays (print_piece piece) text has = refl

    pub text-stays : (writes : List Write) (text : Option (List ℕ)) → HaveNames P writes → text_behind name writes text ≡ text
    text-stays [] text have = refl
    text-stays (w ∷ writes) text have = text-stays writes (text_after name w text) have.1 ∙ one-stays w text have.0

-- ---- writes under other names than the checkpoints', and under theirs
abbrev pub IsNone : Option (List ℕ) → List ℕ → Type 0
IsNone checkpoints name = is_checkpoint checkpoints name ≡ false

abbrev pub AreAside : Option (List ℕ) → List Write → Type 0
AreAside checkpoints writes = HaveNames (IsNone checkpoints) writes

abbrev pub IsOne : List ℕ → List ℕ → Type 0
IsOne prefix name = is_name prefix name ≡ true

module _ (prefix : List ℕ) where
  differ : true ≡ false → ⊥
  differ e = cc

  pub names-differ : (name named : List ℕ) → is_name prefix name ≡ true → is_name prefix named ≡ false → bytes_eq name named ≡ false
  names-differ name named is isn't = at (bytes_eq name named) refl
    where
      at : (b : Bool) → bytes_eq name named ≡ b → b ≡ false
      at true e = absurd (differ (sym is ∙ ap (is_name prefix) ((bytes_decides name named).0 e) ∙ isn't))
      at false e = refl

  others-differ : (name named : List ℕ) → is_name prefix name ≡ false → is_name prefix named ≡ true → bytes_eq name named ≡ false
  others-differ name named isn't is = at (bytes_eq name named) refl
    where
      at : (b : Bool) → bytes_eq name named ≡ b → b ≡ false
      at true e = absurd (differ (sym is ∙ ap (is_name prefix) (sym ((bytes_decides name named).0 e)) ∙ isn't))
      at false e = refl

  -- a checkpoint's text stays behind writes under other names
  pub name-stays : (name : List ℕ) (writes : List Write) (text : Option (List ℕ)) → is_name prefix name ≡ true → AreAside (Some prefix) writes
      → text_behind name writes text ≡ text
  name-stays name writes text is aside =
      text-stays (IsNone (Some prefix)) name (λ named has. names-differ name named is has) writes text aside

  -- and another text behind writes under the checkpoints' names
  pub other-stays : (name : List ℕ) (writes : List Write) (text : Option (List ℕ)) → is_name prefix name ≡ false → HaveNames (IsOne prefix) writes
      → text_behind name writes text ≡ text
  other-stays name writes text isn't have =
      text-stays (IsOne prefix) name (λ named has. others-differ name named isn't has) writes text have

  hidden-at : (b : Bool) (text : Option (List ℕ)) → b ≡ true → cond b None text ≡ None
  hidden-at true text e = refl
  hidden-at false text e = absurd (cc)

  hidden : (w : Texts) (name : List ℕ) → is_name prefix name ≡ true → beside (Some prefix) w name ≡ None
  hidden w name is = hidden-at (is_name prefix name) (w name) is

  seen-at : (b : Bool) (text : Option (List ℕ)) → b ≡ false → cond b None text ≡ text
  seen-at true text e = absurd (cc)
  seen-at false text e = refl

  seen : (w : Texts) (name : List ℕ) → is_name prefix name ≡ false → beside (Some prefix) w name ≡ w name
  seen w name isn't = seen-at (is_name prefix name) (w name) isn't

-- what stands under a name that is none of the checkpoints'
pub beside-is : (checkpoints : Option (List ℕ)) (w : Texts) (name : List ℕ) → is_checkpoint checkpoints name ≡ false
    → beside checkpoints w name ≡ w name
beside-is None w name isn't = refl
beside-is (Some prefix) w name isn't = seen prefix w name isn't

-- ---- all that stands beside
module _ (was is : Texts) (printed now_printed : List ℕ) where
  -- writes under other names leave it
  pub done-beside : (checkpoints : Option (List ℕ)) (writes : List Write) → AreAside checkpoints writes
      → AreDone writes (outputs was is printed now_printed)
      → AreDone writes (outputs (beside checkpoints was) (beside checkpoints is) printed now_printed)
  done-beside None writes aside done = done
  done-beside (Some prefix) writes aside done = record { texts = λ name. at name (is_name prefix name) refl; printed = done.printed }
    where
      at : (name : List ℕ) (b : Bool) → is_name prefix name ≡ b
          → beside (Some prefix) is name ≡ text_behind name writes (beside (Some prefix) was name)
      at name true e =
          hidden prefix is name e ∙ sym (name-stays prefix name writes None e aside)
          ∙ ap (text_behind name writes) (sym (hidden prefix was name e))
      at name false e =
          seen prefix is name e ∙ done.texts name ∙ ap (text_behind name writes) (sym (seen prefix was name e))

  -- and the checkpoints' texts stay
  pub done-stays : (prefix : List ℕ) (writes : List Write) → AreAside (Some prefix) writes → AreDone writes (outputs was is printed now_printed)
      → (name : List ℕ) → is_name prefix name ≡ true → is name ≡ was name
  done-stays prefix writes aside done name there = done.texts name ∙ name-stays prefix name writes (was name) there aside

-- what stands beside where every other text stays
pub same-beside : (checkpoints : Option (List ℕ)) (was is : Texts) → ((name : List ℕ) → is_checkpoint checkpoints name ≡ false → is name ≡ was name)
    → (name : List ℕ) → beside checkpoints is name ≡ beside checkpoints was name
same-beside None was is same name = same name refl
same-beside (Some prefix) was is same name = at (is_name prefix name) refl
  where
    at : (b : Bool) → is_name prefix name ≡ b → beside (Some prefix) is name ≡ beside (Some prefix) was name
    at true e = hidden prefix is name e ∙ sym (hidden prefix was name e)
    at false e = seen prefix is name e ∙ same name e ∙ sym (seen prefix was name e)

-- ---- what writes leave, where each list of writes that is carried out elsewhere is carried out here too
module _ (checkpoints : Option (List ℕ)) (o now : Outputs)
    (move : (writes : List Write) → AreAside checkpoints writes → AreDone writes o → AreDone writes now) where
  pub stops-moved : (writes : List Write) → AreAside checkpoints writes → StopsIn writes o → StopsIn writes now
  stops-moved writes aside stop = record {
    count = stop.count;
    failed = stop.failed;
    at = stop.at;
    part = stop.part;
    is_part = stop.is_part;
    done = move (take stop.count writes ++ stop.part) (names-failed (IsNone checkpoints) writes o stop aside) stop.done;
  }

  pub begun-moved : (writes : List Write) → AreAside checkpoints writes → AreBegun writes o → AreBegun writes now
  begun-moved writes aside begun = record {
    count = begun.count;
    within = begun.within;
    done = move (take begun.count writes) (names-take (IsNone checkpoints) begun.count writes aside) begun.done;
  }

  pub leaves-moved : (writes : List Write) (r : Result (Unit {0}) WriteErr) → AreAside checkpoints writes → Leaves writes o r → Leaves writes now r
  leaves-moved writes (Ok x) aside left = move writes aside left
  leaves-moved writes (Err write.Failed) aside left = stops-moved writes aside left
  leaves-moved writes (Err write.NoMemory) aside left = begun-moved writes aside left

-- some writes under other names were carried out
pub record SomeAside (checkpoints : Option (List ℕ)) (o : Outputs) : Type 0 where
  pub writes : List Write
  pub aside : AreAside checkpoints writes
  pub done : AreDone writes o

module _ (checkpoints : Option (List ℕ)) (o : Outputs) (writes : List Write) (aside : AreAside checkpoints writes) where
  pub some-stopped : StopsIn writes o → SomeAside checkpoints o
  some-stopped stop = record {
    writes = take stop.count writes ++ stop.part;
    aside = names-failed (IsNone checkpoints) writes o stop aside;
    done = stop.done;
  }

  pub some-first : (count : ℕ) → AreDone (take count writes) o → SomeAside checkpoints o
  some-first count done = record { writes = take count writes; aside = names-take (IsNone checkpoints) count writes aside; done = done }

  pub some-left : (r : Result (Unit {0}) WriteErr) → Leaves writes o r → SomeAside checkpoints o
  some-left (Ok x) left = record { writes = writes; aside = aside; done = left }
  some-left (Err write.Failed) left = some-stopped left
  some-left (Err write.NoMemory) left = some-first left.count left.done
