pub mod PortMasks
