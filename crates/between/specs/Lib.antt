pub mod BetweenLaws
