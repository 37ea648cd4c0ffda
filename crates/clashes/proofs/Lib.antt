pub mod TwoPorts
pub mod ChannelLaws
pub mod AddressLaws
