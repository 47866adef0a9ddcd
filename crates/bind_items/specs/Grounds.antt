-- Where items stand, as definitions have it.
use Rattle.v_binding.specs.Items as items
use Rattle.bind_items.specs.declared.ground.Ground.{Ground}

abbrev pub ground_of : Ground → items.Ground
ground_of g = record { frame = g.frame.now; «module» = g.«module».now; path = g.path.now }
