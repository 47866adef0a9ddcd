-- The numbers that a list of sets is asked with.
use Rattle.std.specs.Prelude.{◌≤◌, ℕ, List, Option, Some, None, unwrap_or, codes}
use Rattle.word_values.specs.Arguments.{Row, first_of}
use Rattle.word_values.specs.Values.{number_from}

-- the value of an option, or another where it isn't given
abbrev pub given_or : List ℕ → List ℕ → List Row → List ℕ
given_or id other rows = unwrap_or (first_of id rows) other

-- the most suspects of a set, the most steps that are learned, the most sets, the number of workers
pub record Numbers : Type 0 where
  pub size : ℕ
  pub budget : ℕ
  pub sets : ℕ
  pub workers : ℕ

-- all four, where each is in its range
abbrev pub numbers_of : Option ℕ → Option ℕ → Option ℕ → Option ℕ → Option Numbers
numbers_of (Some size) (Some budget) (Some sets) (Some workers) =
    Some (record { size = size; budget = budget; sets = sets; workers = workers })
numbers_of _ _ _ _ = None

-- the number of workers: 1, where the words don't say otherwise
abbrev pub workers_in : List Row → Option ℕ
workers_in rows = number_from 1 64 (given_or (codes "workers") (codes "1") rows)

-- sets of 2, 200,000 steps, 1,000 sets and 1 worker, where the words don't say otherwise
abbrev pub numbers_in : List Row → Option Numbers
numbers_in rows =
    numbers_of (number_from 0 8 (given_or (codes "size") (codes "2") rows))
    (number_from 1 10000000 (given_or (codes "budget") (codes "200000") rows))
    (number_from 1 100000 (given_or (codes "sets") (codes "1000") rows))
    (workers_in rows)

-- ---- what holds of them
-- a number from a least to a most
abbrev pub IsFrom : ℕ → ℕ → ℕ → Type 0
IsFrom least most number = (least ≤ number) × (number ≤ most)

-- each is in its range
pub record AreNumbers (numbers : Numbers) : Type 0 where
  pub size : numbers.size ≤ 8
  pub budget : IsFrom 1 10000000 numbers.budget
  pub sets : IsFrom 1 100000 numbers.sets
  pub workers : IsFrom 1 64 numbers.workers
