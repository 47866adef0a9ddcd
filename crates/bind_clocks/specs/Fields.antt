-- How the fields of what is bound stand for what contracts see of it.
use Rattle.v_binding.specs.Bound.{Bound}
use Rattle.bind_clocks.specs.declared.bound.Bound.TheInside.{Inside}

abbrev pub bound_of : Inside → Bound
bound_of b = record {
  places = b.places;
  drivers = b.drivers;
  clocked = b.clocked;
  words = b.words;
  declared = b.declared;
  initial = b.initial;
  roots = b.roots;
  misclocked = b.misclocked;
  clock_read = b.clock_read;
}
