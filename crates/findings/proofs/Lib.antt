pub mod SoFarLaws
pub mod EffectCases
pub mod AtWriteLaws
pub mod ReplacedLaws
pub mod BlockLaws
pub mod ReplacedMeans
pub mod OnOrderLaws
pub mod Examples
