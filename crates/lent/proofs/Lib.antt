pub mod WriteLaws
pub mod TabLaws
pub mod RingLaws
pub mod StopLaws
pub mod SlotLaws
pub mod MadeLaws
