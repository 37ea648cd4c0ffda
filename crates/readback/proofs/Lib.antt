pub mod ReadBackLaws
