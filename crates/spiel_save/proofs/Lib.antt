mod Answered
mod FirstLine
mod OneFile
mod PlainGames
mod Reading
mod Texts
mod WrittenFiles
