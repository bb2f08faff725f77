pub mod FrameLaws
pub mod NumberLaws
pub mod PaddingLaws
pub mod ParameterLaws
pub mod ProtocolLaws
pub mod StreamLaws
