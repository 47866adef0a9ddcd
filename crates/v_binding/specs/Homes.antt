-- Where an assignment stands, as definitions have it.
use Rattle.v_binding.specs.declared.place.Home.{Home}
use Rattle.v_binding.specs.Places as places

abbrev pub home_of : Home → places.Home
home_of h = record { «module» = h.«module».now; path = h.path.now; item = h.item }
