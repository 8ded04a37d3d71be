mod Orders
mod Keepings
mod Knowns
mod Finding
mod Endings
mod Sendings
mod Beginnings
