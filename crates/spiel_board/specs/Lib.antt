pub mod TicTacToe
pub mod TicTacToeState
pub mod TicTacToePlays
pub mod TicTacToeLaws
