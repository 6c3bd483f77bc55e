mod Apart
mod Choosing
mod Categories
mod Gaining
mod Parts
