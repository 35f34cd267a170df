pub mod Further
