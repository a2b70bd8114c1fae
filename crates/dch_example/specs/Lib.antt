pub mod TwoWay
