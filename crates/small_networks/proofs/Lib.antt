pub mod AreNetworks
