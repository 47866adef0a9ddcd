mod Steps
mod Entries
mod Loops
mod Made
pub mod Whole
mod Grown
mod Defaults
mod Declaring
mod OfItems
mod OfHeaders
pub mod OfWhole
pub mod Lists
pub mod Names
pub mod Expressions
pub mod NamedNodes
pub mod Lefts
pub mod Statements
pub mod CaseContexts
pub mod Bodies
pub mod Goes
pub mod GateValues
pub mod Drivers
pub mod Blocks
pub mod Ports
pub mod Items
pub mod Numbers
pub mod ScopeNames
pub mod TextSteps
pub mod Declared
pub mod Numbering
pub mod PortNumbers
pub mod InstanceScopes
pub mod Started
pub mod TopPorts
pub mod Designs
