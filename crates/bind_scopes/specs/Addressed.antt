-- The words of an array, as definitions have them.
use Rattle.bind_scopes.specs.declared.addresses.Addresses.{Addresses}
use Rattle.v_binding.specs.Addresses as plain

abbrev pub addresses_of : Addresses → plain.Addresses
addresses_of a = record { low = a.low; count = a.count }
