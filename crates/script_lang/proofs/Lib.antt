mod Lines
mod RootWords
mod Lanes
mod Judged
mod Spelled
mod RootsSpelled
mod AsksSpelled
mod LinesSpelled
