pub mod Twinned
mod Refusing
mod Carried
